use Rattle.std.proofs.Common.{◌-◌, ◌≤◌, length}
use Rattle.ods_space.specs.Free.{is_free_block}
use Rattle.ods_alloc.specs.Scan.{NonePasses}
use Rattle.ods_alloc.proofs.free.next_free.Given as goal

abbrev pub invariant-loop-at : goal.invariant-loop-at
invariant-loop-at l = (l.from ≤ l.at) × NonePasses (is_free_block l.fn.disk.image.now l.fn.disk.layout.now) l.from l.at

abbrev pub decreases-loop-at : goal.decreases-loop-at
decreases-loop-at l = length l.fn.disk.image.now - l.at
