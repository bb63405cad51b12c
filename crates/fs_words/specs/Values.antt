-- The value of an option.
use Rattle.std.specs.Prelude.{ℕ, List, Option, Some, None, option_map}
use Rattle.std.specs.Borrow.{Bor}

-- the text of a value
abbrev pub value_of : Option (Bor (List ℕ)) → Option (List ℕ)
value_of text = option_map (λ (s : Bor (List ℕ)). s.now) text

-- the text of the value, if there is one, spells the thing; without a text there is no thing
abbrev pub IsValue : {A : Type 0} → (List ℕ → A → Type 0) → Option (List ℕ) → Option A → Type 0
IsValue P (Some text) (Some x) = P text x
IsValue P (Some text) None = ⊥
IsValue P None (Some x) = ⊥
IsValue P None None = Unit {0}
