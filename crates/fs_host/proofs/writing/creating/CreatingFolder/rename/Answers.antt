use Rattle.std.proofs.Common.{inl}
use Rattle.fs_host.proofs.writing.creating.CreatingFolder.rename.Goals as goal

pub returns-in-Err-clause-err : goal.returns-in-Err-clause-err
returns-in-Err-clause-err g c = inl (λ held had. had)
