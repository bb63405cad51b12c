-- The condition under which blocks of a file can change without another effect: the layout does not locate them, and no other file holds them.
use Rattle.std.specs.Prelude.{◌≡◌, ◌≢◌, ℕ, ◌≤◌, List, slice_get, Some}
use Rattle.ods_space.specs.Layout.{VolumeLayout}
use Rattle.ods_check.specs.HeldFree.{IsHeldBesides}
use Rattle.ods_repair.specs.declared.fault.RepairFault.{RepairFault}
use Rattle.ods_repair.specs.declared.fault.RepairFault.TheVariants.{NoMemory, FixedBlock, SharedBlock, RepeatedBlock}
use Rattle.ods_repair.specs.Framed.{IsFixedPlace}

-- the number is at this index or a later one, counted from 0
abbrev pub HasFrom : List ℕ → ℕ → ℕ → Type 0
HasFrom numbers first b = (i : ℕ) × (first ≤ i) × (slice_get numbers i ≡ Some b)

-- no number occurs twice
abbrev pub AreOnce : List ℕ → Type 0
AreOnce numbers = (i j b : ℕ) → slice_get numbers i ≡ Some b → slice_get numbers j ≡ Some b → i ≡ j

-- from this index on, none of these blocks of file n is fixed, and no other file holds one
abbrev pub AreApart : List (List ℕ) → VolumeLayout → ℕ → List ℕ → ℕ → Type 0
AreApart I L n blocks first = (b : ℕ) → HasFrom blocks first b → (¬ IsFixedPlace L b) × ¬ IsHeldBesides I L n b

-- The blocks of file n from this index on, counted from 0, can change without another effect: none is fixed, no other file holds one, and the file
-- has no block twice.
pub record AreSpare (I : List (List ℕ)) (L : VolumeLayout) (n : ℕ) (blocks : List ℕ) (first : ℕ) : Type 0 where
  pub apart : AreApart I L n blocks first
  pub once : AreOnce blocks

-- the reason why they cannot: one of them is fixed, another file holds it, or the file has a block twice; or memory runs out
abbrev pub IsNotSpare : List (List ℕ) → VolumeLayout → ℕ → List ℕ → ℕ → RepairFault → Type 0
IsNotSpare I L n blocks first (FixedBlock m b) = (m ≡ n) × HasFrom blocks first b × IsFixedPlace L b
IsNotSpare I L n blocks first (SharedBlock m b) = (m ≡ n) × HasFrom blocks first b × IsHeldBesides I L n b
IsNotSpare I L n blocks first (RepeatedBlock m b) = (m ≡ n) × (i : ℕ) × (j : ℕ) × (i ≢ j) × (slice_get blocks i ≡ Some b) × (slice_get blocks j ≡ Some b)
IsNotSpare I L n blocks first NoMemory = Unit {0}
IsNotSpare I L n blocks first other = ⊥
