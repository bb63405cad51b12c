use Rattle.std.proofs.Common.{false, take}
use Rattle.ods_filing.specs.Led.{IsLed}
use Rattle.ods_upkeep.specs.Emptied.{AreEmptied}
use Rattle.ods_upkeep.specs.Kinds.{Removes}
use Rattle.ods_upkeep.proofs.directories.remove_directories.Given as goal

abbrev pub invariant-loop-path : goal.invariant-loop-path
invariant-loop-path l = record {
  led : IsLed (Removes false) l.initial.filing l.filing;
  gone : AreEmptied (take l.path-index l.fn.paths) l.initial.filing l.filing;
}
