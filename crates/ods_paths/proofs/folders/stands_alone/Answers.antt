use Rattle.std.proofs.Common.{arith, refl}
use Rattle.ods_paths.proofs.folders.stands_alone.Goals as goal

pub returns-in-Some : goal.returns-in-Some
returns-in-Some c = (λ t. absurd (cc), λ alone. absurd (omega (arith, alone c.if-separator-ne46.false (c.if-not-has_byte.ensures.0 refl), c.in-Some.ensures.place.0)))
