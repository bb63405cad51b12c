use Rattle.std.proofs.Common.{drop}
use Rattle.ods_filing.specs.Filed.{Filed}
use Rattle.ods_filing.specs.Led.{IsLed}
use Rattle.ods_upkeep.specs.Kinds.{Renames}
use Rattle.ods_upkeep.specs.Moved.{AreMoved, StopsMoving}
use Rattle.ods_upkeep.specs.declared.failure.Failure.{Failure}
use Rattle.ods_upkeep.proofs.moving.move_all.Given as goal

abbrev pub invariant-loop-found : goal.invariant-loop-found
invariant-loop-found l = record {
  led : IsLed Renames l.initial.filing l.filing;
  moves : (new : Filed) → AreMoved l.target (drop l.found-index l.all) l.filing new → AreMoved l.target l.all l.initial.filing new;
  stops : (new : Filed) (failure : Failure) → StopsMoving l.target (drop l.found-index l.all) l.filing new failure → StopsMoving l.target l.all l.initial.filing new failure;
}
