use Rattle.std.proofs.Common.{drop}
use Rattle.ods_filing.specs.Filed.{Filed}
use Rattle.ods_upkeep.specs.Given.{GetAccess, StopsGiving}
use Rattle.ods_upkeep.specs.declared.failure.Failure.{Failure}
use Rattle.ods_upkeep.proofs.giving.give_all.Given as goal

abbrev pub invariant-loop-found : goal.invariant-loop-found
invariant-loop-found l = record {
  gets : (new : Filed) → GetAccess l.owner l.protection (drop l.found-index l.all) l.filing new → GetAccess l.owner l.protection l.all l.initial.filing new;
  stops : (new : Filed) (failure : Failure) → StopsGiving l.owner l.protection (drop l.found-index l.all) l.filing new failure → StopsGiving l.owner l.protection l.all l.initial.filing new failure;
}
