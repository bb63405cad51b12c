use Rattle.std.proofs.Common.{ℕ, ◌<◌}
use Rattle.ods_check.specs.Findings.{IsRead}
use Rattle.ods_check.proofs.reading.are_all_read.Given as goal

abbrev pub invariant-loop-number : goal.invariant-loop-number
invariant-loop-number l = (n : ℕ) → n < l.number → IsRead l.fn.disk.image.now l.fn.disk.layout.now n
