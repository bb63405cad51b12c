-- Splitting a text at its first byte `c`.
use Rattle.std.specs.Prelude.{◌≡◌, ℕ, ◌<◌, ◌≤◌, ◌==◌, Bool, true, false, List, [], ◌∷◌, length, slice_index, Option, Some, None, if◌then◌else◌}
use Rattle.std.specs.Option.{option_map}
use Rattle.std.specs.List.{position_or_len}

-- the byte is c
abbrev pub is : ℕ → ℕ → Bool
is c b = b == c

-- n is the index of the first byte that passes the test, or the length if no byte passes
pub record IsFirst (p : ℕ → Bool) (text : List ℕ) (n : ℕ) : Type 0 where
  pub within : n ≤ length text
  pub before : (k : ℕ) → k < n → p (slice_index text k) ≡ false
  pub found : n < length text → p (slice_index text n) ≡ true

-- the text contains the byte c
abbrev pub Has : ℕ → List ℕ → Type 0
Has c text = position_or_len (is c) text < length text

-- the text does not contain the byte c
abbrev pub Lacks : ℕ → List ℕ → Type 0
Lacks c text = position_or_len (is c) text ≡ length text

-- the part before the first c, and the part after it; None if the text does not contain c
abbrev pub cut_of : ℕ → List ℕ → Option (List ℕ × List ℕ)
cut_of c [] = None
cut_of c (b ∷ text) = if b == c then Some ([], text) else option_map (λ (p : List ℕ × List ℕ). (b ∷ p.0, p.1)) (cut_of c text)

-- the text has two parts with the first c between them: P holds for the first part, Q for the second
abbrev pub IsPair : {A B : Type 0} → ℕ → (List ℕ → A → Type 0) → (List ℕ → B → Type 0) → List ℕ → A × B → Type 0
IsPair c P Q text x = (front back : List ℕ) × (cut_of c text ≡ Some (front, back)) × P front x.0 × Q back x.1
