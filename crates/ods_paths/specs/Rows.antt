-- The indices of a text from which a pattern matches the rest of it, as a row of booleans: one for each index, and one for the end.
use Rattle.std.specs.Prelude.{◌≡◌, ◌↔◌, ℕ, ◌+◌, ◌≤◌, ◌<◌, ◌⊎◌, List, ◌∷◌, length, drop, Bool, true, false, slice_index}
use Rattle.std.specs.List.{slice_index_or}
use Rattle.ods_paths.specs.Patterns.{Matches}

-- the row is true at this index
abbrev pub Says : List Bool → ℕ → Type 0
Says row j = slice_index_or row j false ≡ true

-- the row belongs to the pattern
pub record IsRow (text : List ℕ) (row : List Bool) (pattern : List ℕ) : Type 0 where
  pub size : length row ≡ length text + 1
  pub each : (j : ℕ) → j ≤ length text → Says row j ↔ Matches pattern (drop j text)

-- an index is true if the old row is true at it or at a later index
pub record OpensRuns (old new : List Bool) : Type 0 where
  pub size : length new ≡ length old
  pub each : (j : ℕ) → Says new j ↔ ((k : ℕ) × (j ≤ k) × Says old k)

-- an index is true if it has the character, or any character for `?`, and the old row is true at the next index
pub record TakesOne (character : ℕ) (text : List ℕ) (old new : List Bool) : Type 0 where
  pub size : length new ≡ length old
  pub each : (j : ℕ) → Says new j ↔ ((j < length text) × ((character ≡ 63) ⊎ (character ≡ slice_index text j)) × Says old (j + 1))
