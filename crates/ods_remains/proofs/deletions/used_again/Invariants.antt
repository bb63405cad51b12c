use Rattle.std.proofs.Common.{◌≡◌, ◌≤◌, take}
use Rattle.ods_remains.specs.Deleted.{used_again}
use Rattle.ods_remains.proofs.deletions.used_again.Given as goal

abbrev pub invariant-loop-lbn : goal.invariant-loop-lbn
invariant-loop-lbn l = (l.count ≤ l.lbn-index) × (l.count ≡ used_again l.fn.disk.image.now l.fn.disk.layout.now (take l.lbn-index l.blocks))
