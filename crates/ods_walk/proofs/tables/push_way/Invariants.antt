use Rattle.std.proofs.Common.{◌≡◌, ◌++◌, length, reverse}
use Rattle.ods_walk.specs.Paths.{path_to}
use Rattle.ods_walk.proofs.tables.push_way.Given as goal

abbrev pub invariant-loop-entered : goal.invariant-loop-entered
invariant-loop-entered l = l.names.items ++ reverse (path_to l.before l.at) ≡ l.fn.names.items ++ reverse (path_to l.directories l.place)

abbrev pub decreases-loop-entered : goal.decreases-loop-entered
decreases-loop-entered l = length l.before
