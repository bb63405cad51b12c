use Rattle.std.proofs.Common.{◌≤◌, ◌-◌, ◌≡◌, length}
use Rattle.ods_volume.proofs.Retagged.{AreSetBefore}
use Rattle.ods_volume.proofs.noted.retag.Given as goal

abbrev pub invariant-loop-at : goal.invariant-loop-at
invariant-loop-at l = record {
  size : l.end ≡ length l.image;
  most : l.at ≤ l.end;
  set : AreSetBefore l.image l.draft l.blocks l.tags.items l.at;
}

abbrev pub decreases-loop-at : goal.decreases-loop-at
decreases-loop-at l = l.end - l.at
