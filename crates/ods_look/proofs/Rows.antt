-- Rows of a table of refusals: the first whose condition holds is the answer.
use Rattle.std.proofs.Common.{◌≡◌, ap, ◌∙◌, Bool, true, false, cond}

-- a check that does not pass is the answer, and one that passes leaves it to the rest
pub holds : {A : Type 0} {b : Bool} {x : A} (y : A) → b ≡ true → cond b x y ≡ x
holds {x = x} y e = ap (λ c. cond c x y) e

pub passes : {A : Type 0} {b : Bool} (x : A) {y z : A} → b ≡ false → y ≡ z → cond b x y ≡ z
passes x {y = y} e rest = ap (λ c. cond c x y) e ∙ rest
