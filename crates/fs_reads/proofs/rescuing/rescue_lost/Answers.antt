use Rattle.std.proofs.Common.{◌≡◌, ◌⊎◌}
use Rattle.ods_shell.specs.declared.status.Status.TheVariants.{Done, Found}
use Rattle.fs_reads.proofs.FilesGot.{either_holds}
use Rattle.fs_reads.proofs.rescuing.rescue_lost.Goals as goal

pub loop-past-preserved : goal.loop-past-preserved
loop-past-preserved g c =
    either_holds (λ s. (s ≡ Done) ⊎ (s ≡ Found)) c.loop-past.status c.in_ok-rescue_number.field-0 c.or-status.result c.or-status.ensures.done c.or-status.ensures.fault c.loop-past.invariant c.in_ok-rescue_number.ensures
