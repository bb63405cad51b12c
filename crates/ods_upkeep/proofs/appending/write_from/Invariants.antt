use Rattle.std.proofs.Common.{◌-◌, ◌≤◌}
use Rattle.ods_upkeep.specs.Appended.{writes}
use Rattle.ods_upkeep.specs.Removed.{Does}
use Rattle.ods_upkeep.proofs.appending.write_from.Given as goal

abbrev pub invariant-loop-k : goal.invariant-loop-k
invariant-loop-k l = Does l.fn.filing (writes l.file l.all l.first (l.k - l.first)) l.filing
