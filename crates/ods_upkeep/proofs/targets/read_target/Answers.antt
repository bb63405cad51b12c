use Rattle.std.proofs.Common.{refl, subst, inl}
use Rattle.ods_paths.specs.Bad.{IsBad}
use Rattle.ods_upkeep.proofs.targets.read_target.Goals as goal

pub returns-in-Err : goal.returns-in-Err
returns-in-Err c = inl (c.in-Err.bad, refl, subst (λ text. IsBad text c.in-Err.bad) c.as_bytes.ensures.value c.in-Err.ensures)
