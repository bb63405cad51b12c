-- No line so far says that the index is bad.
use Rattle.std.proofs.Common.{take}
use Rattle.std.specs.List.{Contains}
use Rattle.ods_check.specs.declared.fault_line.FaultLine.TheVariants.{Index}
use Rattle.ods_check.specs.declared.fault_line.IndexFault.{IndexFault}
use Rattle.f11fs.proofs.mending_shares.has_index_fault.Given as goal

abbrev pub invariant-loop-line : goal.invariant-loop-line
invariant-loop-line l = (why : IndexFault) → ¬ Contains (take l.line-index l.lines) (Index why)
