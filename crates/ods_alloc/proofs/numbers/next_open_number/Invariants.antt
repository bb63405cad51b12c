use Rattle.std.proofs.Common.{◌+◌, ◌-◌, ◌≤◌}
use Rattle.ods_space.specs.Free.{is_open_number}
use Rattle.ods_alloc.specs.Scan.{NonePasses}
use Rattle.ods_alloc.proofs.numbers.next_open_number.Given as goal

abbrev pub invariant-loop-at : goal.invariant-loop-at
invariant-loop-at l = (1 ≤ l.at) × (l.from ≤ l.at) × NonePasses (is_open_number l.fn.disk.image.now l.fn.disk.layout.now l.most) l.from l.at

abbrev pub decreases-loop-at : goal.decreases-loop-at
decreases-loop-at l = l.last + 1 - l.at
