use Rattle.std.proofs.Common.{drop}
use Rattle.ods_filing.specs.Filed.{Filed}
use Rattle.ods_upkeep.specs.Given.{GetTheirs, StopsGivingTheirs}
use Rattle.ods_upkeep.specs.declared.failure.Failure.{Failure}
use Rattle.ods_upkeep.proofs.giving.give_access.Given as goal

abbrev pub invariant-loop-access : goal.invariant-loop-access
invariant-loop-access l = record {
  gets : (new : Filed) → GetTheirs (drop l.access-index l.all) l.filing new → GetTheirs l.all l.initial.filing new;
  stops : (new : Filed) (failure : Failure) → StopsGivingTheirs (drop l.access-index l.all) l.filing new failure → StopsGivingTheirs l.all l.initial.filing new failure;
}
