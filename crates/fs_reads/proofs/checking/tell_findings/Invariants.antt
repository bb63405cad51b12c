use Rattle.std.proofs.Common.{◌≡◌, true}
use Rattle.fs_reads.specs.Shown.{StaysSaid}
use Rattle.fs_reads.proofs.checking.tell_findings.Given as goal

abbrev pub invariant-loop-finding : goal.invariant-loop-finding
invariant-loop-finding g l = StaysSaid l.initial.output.is_empty l.output.is_empty
