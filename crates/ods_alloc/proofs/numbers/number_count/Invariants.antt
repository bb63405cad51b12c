use Rattle.std.proofs.Common.{ℕ, List, ◌-◌}
use Rattle.ods_space.specs.Layout.{last_number}
use Rattle.ods_space.specs.Free.{is_free_number}
use Rattle.ods_alloc.proofs.Scans.{AreFound}
use Rattle.ods_alloc.proofs.numbers.number_count.Given as goal

abbrev pub invariant-loop-number : goal.invariant-loop-number
invariant-loop-number l = (found : List ℕ) × AreFound (is_free_number l.fn.disk.image.now l.fn.disk.layout.now) 1 (last_number l.fn.disk.layout.now) found l.from l.count

abbrev pub decreases-loop-number : goal.decreases-loop-number
decreases-loop-number l = 65537 - l.from
