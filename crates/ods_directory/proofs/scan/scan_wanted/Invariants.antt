use Rattle.std.proofs.Common.{◌≡◌, ◌≤◌, ◌-◌, ◌*◌, ◌/◌, min, fold}
use Rattle.std.specs.List.{range_with_len}
use Rattle.ods_directory.specs.Entry.{entry_at}
use Rattle.ods_directory.proofs.scan.scan_wanted.Given as goal

abbrev pub invariant-loop-at : goal.invariant-loop-at
invariant-loop-at g l = record {
  most : l.at ≤ l.end;
  taken : l.into ≡ fold (λ s k. g.G.Pass.after s k (entry_at (g.B.DirBlocks.blocks l.blocks) k)) l.initial.into (range_with_len 0 (min (32 * l.at) (l.mark / 16)));
}

abbrev pub decreases-loop-at : goal.decreases-loop-at
decreases-loop-at g l = l.end - l.at
