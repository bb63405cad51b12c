use Rattle.std.proofs.Common.{◌≡◌, ◌⊎◌}
use Rattle.ods_shell.specs.declared.status.Status.TheVariants.{Done, Found}
use Rattle.fs_reads.proofs.FilesGot.{either_holds}
use Rattle.fs_reads.proofs.rescuing.say_bad_headers.Goals as goal

pub loop-finding-preserved : goal.loop-finding-preserved
loop-finding-preserved g c =
    either_holds (λ s. (s ≡ Done) ⊎ (s ≡ Found)) c.loop-finding.status c.in_ok-say_bad_header.field-0 c.or-status.result c.or-status.ensures.done c.or-status.ensures.fault c.loop-finding.invariant c.in_ok-say_bad_header.ensures
