-- A reader that is compared with expected bytes.
use Rattle.std.specs.Prelude.{◌≡◌, ◌==◌, ◌⊎◌, ⊤, ℕ, Bool, IsTrue, Option, Some, None, List, [], ◌++◌, replicate}

-- The expected bytes are all bytes of a file; or, if it may lack zeros at its end, these with zeros after them.
abbrev pub HasAll : Bool → List ℕ → List ℕ → Type 0
HasAll ends_in_zeros all wanted = (wanted ≡ all) ⊎ (IsTrue ends_in_zeros × ((n : ℕ) × (wanted ≡ all ++ replicate n 0)))

-- A reader had `old` left and has `new` left, if these are known. It returned the expected bytes, or it is at its end, and zeros are expected after
-- all returned bytes.
abbrev pub Gives : Bool → Option (List ℕ) → Option (List ℕ) → List ℕ → Type 0
Gives ends_in_zeros None new wanted = ⊤
Gives ends_in_zeros (Some all) None wanted = ⊥
Gives ends_in_zeros (Some all) (Some rest) wanted = (all ≡ wanted ++ rest) ⊎ ((rest ≡ []) × (IsTrue ends_in_zeros × ((n : ℕ) × (wanted ≡ all ++ replicate n 0))))

-- the byte is zero
abbrev pub is_zero : ℕ → Bool
is_zero byte = byte == 0
