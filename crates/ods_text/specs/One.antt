-- The only value that satisfies a property.
use Rattle.std.specs.Prelude.{◌≡◌, Option, Some, None}

-- the only value for which P holds; None if P holds for no value
abbrev pub IsTheOne : {A : Type 0} → (A → Type 0) → Option A → Type 0
IsTheOne {A} P (Some x) = P x × ((y : A) → P y → y ≡ x)
IsTheOne {A} P None = (y : A) → P y → ⊥
