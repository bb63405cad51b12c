use Rattle.ods_init.proofs.RunsOn.{AreFirstRuns}
use Rattle.ods_init.proofs.reserved.pointers_to.Given as goal

abbrev pub invariant-loop-k : goal.invariant-loop-k
invariant-loop-k l = AreFirstRuns l.first l.count l.k l.pointers.items
