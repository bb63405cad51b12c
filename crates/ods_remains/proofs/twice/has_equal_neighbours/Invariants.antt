use Rattle.std.proofs.Common.{◌≤◌}
use Rattle.ods_remains.proofs.Repeats.{RisesBelow}
use Rattle.ods_remains.proofs.twice.has_equal_neighbours.Given as goal

abbrev pub invariant-loop-i : goal.invariant-loop-i
invariant-loop-i l = (1 ≤ l.i) × RisesBelow l.numbers l.i
