-- Tables of blocks or headers of files. A table is a set of numbers, with one bit for each.
use Rattle.std.specs.Prelude.{◌≡◌, ℕ, ◌/◌, ◌%◌, ◌<◌, ◌⊎◌, Bool, ◌==◌, true, false, List, Some, slice_get, slice_index}
use Rattle.std.specs.Int.{bit_at}

-- b is in the set of these 64-bit words
abbrev pub has : List ℕ → ℕ → Bool
has words b = bit_at (slice_index words (b / 64)) (b % 64) == 1

-- b is added to the set, and every other number is unchanged
abbrev pub IsWith : List ℕ → List ℕ → ℕ → Type 0
IsWith new old b = (has new b ≡ true) × ((c : ℕ) → (c ≡ b → ⊥) → has new c ≡ has old c)

-- the first i of these numbers are added to the set, each once, and the set had none of them
pub record IsNoted (old new : List ℕ) (xs : List ℕ) (i : ℕ) : Type 0 where
  pub stays : (b : ℕ) → has old b ≡ true → has new b ≡ true
  pub some : (j b : ℕ) → j < i → slice_get xs j ≡ Some b → has new b ≡ true
  pub only : (b : ℕ) → has new b ≡ true → (has old b ≡ true) ⊎ ((j : ℕ) × (j < i) × (slice_get xs j ≡ Some b))
  pub apart : (j b : ℕ) → j < i → slice_get xs j ≡ Some b → has old b ≡ false
  pub distinct : (j k b : ℕ) → j < i → k < i → slice_get xs j ≡ Some b → slice_get xs k ≡ Some b → j ≡ k

-- the number is one of these, and it is already in the set or among the numbers before it
pub record IsThere (old : List ℕ) (xs : List ℕ) (number : ℕ) : Type 0 where
  pub index : ℕ
  pub named : slice_get xs index ≡ Some number
  pub there : (has old number ≡ true) ⊎ ((j : ℕ) × (j < index) × (slice_get xs j ≡ Some number))

-- The set is what the files below n have, each number once. `Has m v b` states that file m has b as its number v.
pub record IsTable (Has : ℕ → ℕ → ℕ → Type 0) (n : ℕ) (set : List ℕ) : Type 0 where
  pub all : (m v b : ℕ) → m < n → Has m v b → has set b ≡ true
  pub only : (b : ℕ) → has set b ≡ true → (m : ℕ) × (v : ℕ) × (m < n) × Has m v b
  pub once : (m k v w b : ℕ) → m < n → k < n → Has m v b → Has k w b → (m ≡ k) × (v ≡ w)
