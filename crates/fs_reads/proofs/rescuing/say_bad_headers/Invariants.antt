-- Nothing was wrong so far, or something was found.
use Rattle.std.proofs.Common.{◌≡◌, ◌⊎◌}
use Rattle.ods_shell.specs.declared.status.Status.TheVariants.{Done, Found}
use Rattle.fs_reads.proofs.rescuing.say_bad_headers.Given as goal

abbrev pub invariant-loop-finding : goal.invariant-loop-finding
invariant-loop-finding g l = (l.status ≡ Done) ⊎ (l.status ≡ Found)
