use Rattle.std.proofs.Common.{◌*◌}
use Rattle.ods_alloc.specs.Counts.{IsCountedTo}
use Rattle.ods_alloc.proofs.counting.bits_after.Given as goal

abbrev pub invariant-loop-k : goal.invariant-loop-k
invariant-loop-k l = IsCountedTo l.few l.old l.new (8 * l.k) l.count
