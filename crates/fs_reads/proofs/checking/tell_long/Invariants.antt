use Rattle.std.proofs.Common.{◌≡◌, true}
use Rattle.fs_reads.specs.Shown.{StaysSaid}
use Rattle.fs_reads.proofs.checking.tell_long.Given as goal

abbrev pub invariant-loop-before : goal.invariant-loop-before
invariant-loop-before g l = StaysSaid l.initial.output.is_empty l.output.is_empty
