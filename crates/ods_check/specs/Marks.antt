-- Numbers of a list that are in a set, that occur twice, and that two files share.
use Rattle.std.specs.Prelude.{◌≡◌, ◌≢◌, ◌⊎◌, ◌↔◌, ℕ, ◌<◌, Bool, true, false, List, slice_get, slice_index, slice_set, Some}
use Rattle.ods_space.specs.Layout.{VolumeLayout}
use Rattle.ods_mount.specs.Tables.{has}
use Rattle.ods_mount.specs.Checks.{HasHeader}
use Rattle.ods_check.specs.Lists.{AreDistinct}
use Rattle.ods_check.specs.Findings.{HasBlock, HasAsHeader}
use Rattle.ods_check.specs.Lines.{Share}

-- x is in the list and in the set, and no earlier number of the list is in the set
pub record IsFirstIn (xs set : List ℕ) (x : ℕ) : Type 0 where
  pub place : ℕ
  pub named : slice_get xs place ≡ Some x
  pub there : has set x ≡ true
  pub first : (j y : ℕ) → slice_get xs j ≡ Some y → j < place → has set y ≡ false

-- these are the numbers that are in the list and in the set, each once
pub record AreBoth (xs set ys : List ℕ) : Type 0 where
  pub each : (i b : ℕ) → slice_get ys i ≡ Some b → (j : ℕ) × (slice_get xs j ≡ Some b) × (has set b ≡ true)
  pub all : (j b : ℕ) → slice_get xs j ≡ Some b → has set b ≡ true → (i : ℕ) × (slice_get ys i ≡ Some b)
  pub once : AreDistinct ys

-- A number that is in the set and does not have the stamp receives it and counts 1. Any other number counts 0.
abbrev pub IsCounted : List ℕ → ℕ → ℕ → List ℕ → ℕ → List ℕ → Type 0
IsCounted set b stamp old count new =
    ((count ≡ 0) × (new ≡ old) × ((has set b ≡ false) ⊎ (slice_index old b ≡ stamp)))
    ⊎ ((count ≡ 1) × (new ≡ slice_set old b stamp) × (has set b ≡ true) × (slice_index old b ≢ stamp))

-- If `holds` is true and the number has another stamp, it receives this one. The result is true if it receives the stamp.
abbrev pub PutsStamp : ℕ → Bool → ℕ → List ℕ → Bool → List ℕ → Type 0
PutsStamp b holds stamp old put new =
    ((put ≡ false) × (new ≡ old) × ((holds ≡ false) ⊎ (slice_index old b ≡ stamp)))
    ⊎ ((put ≡ true) × (new ≡ slice_set old b stamp) × (holds ≡ true) × (slice_index old b ≢ stamp))

-- the set contains exactly the shared ones of the blocks of file m, shared with file n
pub record HasShared (I : List (List ℕ)) (L : VolumeLayout) (m n : ℕ) (set : List ℕ) : Type 0 where
  pub only : (b : ℕ) → HasBlock I L m b → has set b ≡ true → Share I L m n b
  pub all : (b : ℕ) → Share I L m n b → has set b ≡ true

-- these are the headers of the chain of file n, in order; a number that is not a file, or has no chain, has none
abbrev pub AreHeaders : List (List ℕ) → VolumeLayout → ℕ → List ℕ → Type 0
AreHeaders I L n xs = (j x : ℕ) → (slice_get xs j ≡ Some x) ↔ HasHeader I L n j x

-- header x is in the chains of two files below n
pub record IsOfTwo (I : List (List ℕ)) (L : VolumeLayout) (n x : ℕ) : Type 0 where
  pub one : ℕ
  pub other : ℕ
  pub before : one < other
  pub low : other < n
  pub first : HasAsHeader I L one x
  pub second : HasAsHeader I L other x
