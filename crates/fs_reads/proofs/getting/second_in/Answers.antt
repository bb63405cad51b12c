use Rattle.std.proofs.Common.{true, subst, sym}
use Rattle.fs_reads.specs.Dates.{IsDateAt, IsDatedBy}
use Rattle.fs_reads.proofs.getting.second_in.Goals as goal

pub returns-in-Some : goal.returns-in-Some
returns-in-Some c =
    subst (λ facts. IsDatedBy true facts c.second_at.result) (sym c.in-Some.is) (subst (λ date. IsDateAt date c.second_at.result) c.creation_date.ensures c.second_at.ensures)
