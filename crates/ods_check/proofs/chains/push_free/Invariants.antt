use Rattle.std.specs.List.{Contains}
use Rattle.std.specs.Prelude.{IsTrue}
use Rattle.ods_space.specs.Free.{is_free_block}
use Rattle.ods_mount.specs.declared.fault.MountFault.TheVariants.{MarkedFree}
use Rattle.ods_mount.proofs.Each.{EachBefore}
use Rattle.ods_check.specs.Lists.{Adds}
use Rattle.ods_check.specs.declared.fault_line.FaultLine.TheVariants.{Plain}
use Rattle.ods_check.specs.Lines.{IsLineOf}
use Rattle.std.proofs.Common.{length}
use Rattle.ods_check.proofs.Stamping.{AreStamped}
use Rattle.ods_check.proofs.chains.push_free.Given as goal

abbrev pub invariant-loop-i : goal.invariant-loop-i
invariant-loop-i l = record {
  adds : Adds (IsLineOf l.fn.disk.image.now l.fn.disk.layout.now) l.initial.faults l.faults;
  told : EachBefore (λ j b. IsTrue (is_free_block l.fn.disk.image.now l.fn.disk.layout.now b) → Contains l.faults.0 (Plain (MarkedFree l.number b))) l.lbns l.i;
  stamped : AreStamped (λ b. Plain (MarkedFree l.number b)) l.stamp (length l.fn.disk.image.now) l.initial.faults l.faults l.stamps;
}
