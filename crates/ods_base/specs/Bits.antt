-- Bits of a block that are set or cleared, and words of 64 bits.
use Rattle.std.specs.Prelude.{◌≡◌, ℕ, ◌<◌, Bool, ◌==◌, if◌then◌else◌, List}
use Rattle.std.specs.Int.{bit_at}
use Rattle.ods_base.specs.Block.{has_bit}

-- c has the bits of b, except for bit i, which has this value
abbrev pub HasBit : List ℕ → ℕ → Bool → List ℕ → Type 0
HasBit b i value c = (j : ℕ) → has_bit c j ≡ (if j == i then value else has_bit b j)

-- bit i of the word is set if the test of i is true
abbrev pub IsWordOf : (ℕ → Bool) → ℕ → Type 0
IsWordOf test word = (i : ℕ) → i < 64 → (bit_at word i == 1) ≡ test i
