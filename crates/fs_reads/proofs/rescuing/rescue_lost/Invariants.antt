-- Nothing was wrong so far, or something was found.
use Rattle.std.proofs.Common.{◌≡◌, ◌⊎◌}
use Rattle.ods_shell.specs.declared.status.Status.TheVariants.{Done, Found}
use Rattle.fs_reads.proofs.rescuing.rescue_lost.Given as goal

abbrev pub invariant-loop-past : goal.invariant-loop-past
invariant-loop-past g l = (l.status ≡ Done) ⊎ (l.status ≡ Found)
