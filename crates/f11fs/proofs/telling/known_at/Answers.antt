use Rattle.std.proofs.Common.{refl}
use Rattle.f11fs.proofs.telling.known_at.Goals as goal

pub returns-in-None-clause-known : goal.returns-in-None-clause-known
returns-in-None-clause-known c = λ sorted. c.in-None.ensures.none sorted refl
