-- Numbers that texts spell, in decimal and in octal.
use Rattle.std.specs.Prelude.{◌≡◌, ℕ, ◌+◌, ◌*◌, ◌-◌, ◌^◌, ◌<◌, ◌≤◌, List, [], ◌∷◌, length}
use Rattle.std.specs.List.{All}
use Rattle.std.specs.Fmt.{decimal}

-- a number below 2^64 in decimal, without leading zeros
abbrev pub IsLargeNumber : List ℕ → ℕ → Type 0
IsLargeNumber text n = (n < 2 ^ 64) × (text ≡ decimal n)

-- a number below 2^32 in decimal, without leading zeros
abbrev pub IsNumber : List ℕ → ℕ → Type 0
IsNumber text n = (n < 2 ^ 32) × (text ≡ decimal n)

-- a number below 2^16 in decimal, without leading zeros
abbrev pub IsSmallNumber : List ℕ → ℕ → Type 0
IsSmallNumber text n = (n < 2 ^ 16) × (text ≡ decimal n)

-- the value of octal digits, read from the left, after n
abbrev pub octal_value : ℕ → List ℕ → ℕ
octal_value n [] = n
octal_value n (c ∷ text) = octal_value (n * 8 + (c - 48)) text

-- an octal number of one to three digits, at most 377
pub record IsOctal (text : List ℕ) (n : ℕ) : Type 0 where
  pub some : 1 ≤ length text
  pub few : length text ≤ 3
  pub digits : All (λ c. (48 ≤ c) × (c ≤ 55)) text
  pub small : n ≤ 255
  pub value : octal_value 0 text ≡ n
