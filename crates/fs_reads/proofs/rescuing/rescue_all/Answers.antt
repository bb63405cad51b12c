use Rattle.std.proofs.Common.{◌≡◌, ◌⊎◌}
use Rattle.ods_shell.specs.declared.status.Status.TheVariants.{Done, Found}
use Rattle.fs_reads.proofs.FilesGot.{either_holds}
use Rattle.fs_reads.proofs.rescuing.rescue_all.Goals as goal

pub returns : goal.returns
returns g c =
    let both = either_holds (λ s. (s ≡ Done) ⊎ (s ≡ Found)) c.in_ok-named.named c.in_ok-lost.lost c.or.result c.or.ensures.done c.or.ensures.fault c.in_ok-named.ensures c.in_ok-lost.ensures in
    either_holds (λ s. (s ≡ Done) ⊎ (s ≡ Found)) c.or.result c.in_ok-say_bad_headers.field-0 c.or-2.result c.or-2.ensures.done c.or-2.ensures.fault both c.in_ok-say_bad_headers.ensures
