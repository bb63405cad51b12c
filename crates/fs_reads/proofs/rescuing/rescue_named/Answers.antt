use Rattle.std.proofs.Common.{◌≡◌, ◌⊎◌}
use Rattle.ods_shell.specs.declared.status.Status.TheVariants.{Done, Found}
use Rattle.fs_reads.proofs.FilesGot.{either_holds}
use Rattle.fs_reads.proofs.rescuing.rescue_named.Goals as goal

pub loop-at-preserved : goal.loop-at-preserved
loop-at-preserved g c =
    either_holds (λ s. (s ≡ Done) ⊎ (s ≡ Found)) c.loop-at.status c.in_ok-rescue_line.field-0 c.or-status.result c.or-status.ensures.done c.or-status.ensures.fault c.loop-at.invariant c.in_ok-rescue_line.ensures
