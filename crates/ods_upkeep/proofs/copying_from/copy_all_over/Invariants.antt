use Rattle.std.proofs.Common.{◌≡◌, drop, Some}
use Rattle.ods_filing.specs.Filed.{Filed}
use Rattle.ods_upkeep.specs.CopiedFrom.{AreCopiedOver}
use Rattle.ods_upkeep.specs.Kinds.{Copies}
use Rattle.ods_upkeep.specs.Legs.{IsLedGiving}
use Rattle.ods_upkeep.specs.UncopiedFrom.{StopsCopyingOver}
use Rattle.ods_upkeep.specs.declared.asked.Placing.TheVariants.{Anywhere}
use Rattle.ods_upkeep.specs.declared.failure.Failure.{Failure}
use Rattle.ods_upkeep.proofs.copying_from.copy_all_over.Given as goal

abbrev pub invariant-loop-found : goal.invariant-loop-found
invariant-loop-found l = record {
  led : l.how.placing ≡ Some Anywhere → IsLedGiving l.how.owners Copies l.initial.filing l.filing;
  copies : (new : Filed) → AreCopiedOver l.other.image.now l.other.layout.now l.how l.target l.stamp (drop l.found-index l.all) l.filing new
      → AreCopiedOver l.other.image.now l.other.layout.now l.how l.target l.stamp l.all l.initial.filing new;
  stops : (new : Filed) (failure : Failure) → StopsCopyingOver l.other.image.now l.other.layout.now l.how l.target l.stamp (drop l.found-index l.all) l.filing new failure
      → StopsCopyingOver l.other.image.now l.other.layout.now l.how l.target l.stamp l.all l.initial.filing new failure;
}
