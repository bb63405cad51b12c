use Rattle.std.proofs.Common.{◌≡◌, true}
use Rattle.fs_reads.specs.Shown.{StaysSaid}
use Rattle.fs_reads.proofs.checking.tell_faults.Given as goal

abbrev pub invariant-loop-fault : goal.invariant-loop-fault
invariant-loop-fault g l = StaysSaid l.initial.output.is_empty l.output.is_empty × (l.output.is_empty ≡ true → l.fault-index ≡ 0)
