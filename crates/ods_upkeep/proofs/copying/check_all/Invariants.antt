use Rattle.std.proofs.Common.{drop}
use Rattle.ods_upkeep.specs.Uncopied.{IsFirstUncopyable, MayAllBeCopied}
use Rattle.ods_upkeep.specs.declared.failure.Failure.{Failure}
use Rattle.ods_upkeep.proofs.copying.check_all.Given as goal

abbrev pub invariant-loop-found : goal.invariant-loop-found
invariant-loop-found l = record {
  may : MayAllBeCopied l.reader l.target (drop l.found-index l.all) → MayAllBeCopied l.reader l.target l.all;
  first : (failure : Failure) → IsFirstUncopyable l.reader l.target (drop l.found-index l.all) failure → IsFirstUncopyable l.reader l.target l.all failure;
}
