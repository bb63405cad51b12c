use Rattle.std.proofs.Common.{inl}
use Rattle.fs_host.proofs.Failed.{on_err}
use Rattle.fs_host.proofs.saving.replacing.ReplacingFolder.rename.Goals as goal

pub returns-in_err-leave-clause-err : goal.returns-in_err-leave-clause-err
returns-in_err-leave-clause-err g c = on_err c.from_residual.result (inl (λ held had. had))

pub returns-in-Err-clause-err : goal.returns-in-Err-clause-err
returns-in-Err-clause-err g c = inl (λ held had. had)
