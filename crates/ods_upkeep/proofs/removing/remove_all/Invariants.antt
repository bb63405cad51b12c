use Rattle.std.proofs.Common.{drop}
use Rattle.std.specs.Prelude.{slice_index}
use Rattle.ods_filing.specs.Filed.{Filed}
use Rattle.ods_filing.specs.Led.{IsLed}
use Rattle.ods_upkeep.specs.Kinds.{Removes}
use Rattle.ods_upkeep.specs.Removed.{StopsGoing, removals}
use Rattle.ods_upkeep.specs.declared.failure.Failure.{Failure}
use Rattle.ods_upkeep.proofs.Doing.{IsPartly}
use Rattle.ods_upkeep.proofs.removing.remove_all.Given as goal

abbrev pub invariant-loop-found : goal.invariant-loop-found
invariant-loop-found l = record {
  led : IsLed (Removes l.removal.entry_alone) l.initial.filing l.filing;
  partly : IsPartly l.initial.filing l.filing (removals l.removal.entry_alone (slice_index l.initial.names) l.all) (removals l.removal.entry_alone (slice_index l.names) (drop l.found-index l.all));
  stops : (new : Filed) (failure : Failure) → StopsGoing l.removal.entry_alone (slice_index l.names) (drop l.found-index l.all) l.filing new failure
      → StopsGoing l.removal.entry_alone (slice_index l.initial.names) l.all l.initial.filing new failure;
}
