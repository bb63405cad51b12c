use Rattle.ods_directory.specs.Entry.{entry_at}
use Rattle.ods_repair.specs.Noted.{AreHighest, number_in}
use Rattle.ods_repair.proofs.doubling.highest_versions.Given as goal

abbrev pub invariant-loop-k : goal.invariant-loop-k
invariant-loop-k l = AreHighest (entry_at l.blocks) l.count l.k (number_in l.highest)
