use Rattle.std.specs.List.{Contains}
use Rattle.ods_mount.proofs.Each.{EachBefore}
use Rattle.ods_check.specs.declared.fault_line.FaultLine.TheVariants.{Index}
use Rattle.ods_check.specs.declared.fault_line.IndexFault.TheVariants.{HeldPlace}
use Rattle.ods_check.specs.Lists.{Adds}
use Rattle.ods_check.specs.Lines.{IsLineOf}
use Rattle.ods_check.proofs.HeldPlaces.{IsLoose}
use Rattle.std.proofs.Common.{length}
use Rattle.ods_check.proofs.Stamping.{AreStamped}
use Rattle.ods_check.proofs.chains.push_places.Given as goal

abbrev pub invariant-loop-i : goal.invariant-loop-i
invariant-loop-i l = record {
  adds : Adds (IsLineOf l.fn.disk.image.now l.fn.disk.layout.now) l.initial.faults l.faults;
  told : EachBefore (λ j b. IsLoose l.home_lbn l.number j b → Contains l.faults.0 (Index (HeldPlace b l.number))) l.lbns l.i;
  stamped : AreStamped (λ b. Index (HeldPlace b l.number)) l.stamp (length l.fn.disk.image.now) l.initial.faults l.faults l.stamps;
}
