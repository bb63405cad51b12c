use Rattle.std.proofs.Common.{◌≡◌, drop, false}
use Rattle.ods_filing.specs.Filed.{Filed}
use Rattle.ods_upkeep.specs.Copied.{AreCopied}
use Rattle.ods_upkeep.specs.Kinds.{Copies}
use Rattle.ods_upkeep.specs.Legs.{IsLedGiving}
use Rattle.ods_upkeep.specs.Uncopied.{StopsCopying}
use Rattle.ods_upkeep.specs.declared.asked.Placing.TheVariants.{Anywhere}
use Rattle.ods_upkeep.specs.declared.failure.Failure.{Failure}
use Rattle.ods_upkeep.proofs.copying.copy_all.Given as goal

abbrev pub invariant-loop-found : goal.invariant-loop-found
invariant-loop-found l = record {
  led : l.placing ≡ Anywhere → IsLedGiving false Copies l.initial.filing l.filing;
  copies : (new : Filed) → AreCopied l.placing l.target l.stamp (drop l.found-index l.all) l.filing new → AreCopied l.placing l.target l.stamp l.all l.initial.filing new;
  stops : (new : Filed) (failure : Failure) → StopsCopying l.placing l.target l.stamp (drop l.found-index l.all) l.filing new failure → StopsCopying l.placing l.target l.stamp l.all l.initial.filing new failure;
}
