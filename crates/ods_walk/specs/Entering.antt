-- Directories that are entered from the master directory on, the nearer ones first: a table of them. Each is read once.
use Rattle.std.specs.Prelude.{◌≡◌, ◌⊎◌, ℕ, ◌+◌, ◌<◌, ◌≤◌, Bool, true, not, List, [], ◌∷◌, ◌++◌, length, map, set, nat_eq, Some}
use Rattle.std.specs.List.{Contains, IsDistinct, count_by}
use Rattle.ods_base.specs.declared.listed.Listed.{Listed}
use Rattle.ods_space.specs.Layout.{VolumeLayout}
use Rattle.ods_mount.specs.Faults.{IsDirectoryFile}
use Rattle.ods_walk.specs.declared.tables.Entered.{Entered}
use Rattle.ods_walk.specs.Complete.{HasEntry, LeadsPast}
use Rattle.ods_walk.specs.Paths.{path_to, number_at}
use Rattle.ods_walk.specs.Steps.{AreEntered}
use Rattle.ods_walk.specs.Walk.{NamesDirectory, IsWalkedInto}

-- the numbers of a table's directories
abbrev pub numbers : List Entered → List ℕ
numbers table = map (λ d. d.number) table

-- A walk from directory `start` has entered the directories of this table, past the shut ones. Its path reaches each, none is in it twice, and
-- `entered` has exactly their numbers and those of the shut ones.
pub record IsTable (I : List (List ℕ)) (L : VolumeLayout) (start : ℕ) (shut : List ℕ) (table : List Entered) (entered : List ℕ) : Type 0 where
  pub only : (place : ℕ) → place < length table → LeadsPast I L shut start (path_to table place) (number_at table place)
  pub once : IsDistinct nat_eq (numbers table)
  pub starts : Contains (numbers table) start
  pub own : (n : ℕ) → Contains (numbers table) n → Contains entered n
  pub closed : (n : ℕ) → Contains shut n → Contains entered n
  pub no_other : (n : ℕ) → Contains entered n → Contains (numbers table) n ⊎ Contains shut n

-- The state of the walk from the master directory, with this table and these flags: the directories before this index are read, and each directory
-- that they name is entered.
pub record IsEntering (I : List (List ℕ)) (L : VolumeLayout) (flags : List Bool) (table : List Entered) (place : ℕ) : Type 0 where
  pub entered : List ℕ
  pub are : AreEntered flags entered
  pub reached : IsTable I L 4 (4 ∷ []) table entered
  pub files : (p : ℕ) → p < length table → IsDirectoryFile I L (number_at table p)
  pub read : (p : ℕ) (e : Listed) → p < place → p < length table → HasEntry I L (number_at table p) e → NamesDirectory I L e → Contains entered e.file.number

-- the table with the directory that this entry of the directory at this index names
abbrev pub with_entered : List Entered → ℕ → Listed → List Entered
with_entered table place e = table ++ record { number = e.file.number; from = Some (place, e.name) } ∷ []

-- The entry of the directory at this index is seen. If the walk enters its directory, that directory is added; otherwise nothing changes.
abbrev pub IsSeen : List (List ℕ) → VolumeLayout → ℕ → Listed → List Bool → List Entered → List Bool → List Entered → Type 0
IsSeen I L place e flags table flags_after after =
    (entered : List ℕ) → AreEntered flags entered
    → (IsWalkedInto I L entered e × (flags_after ≡ set flags e.file.number true) × (after ≡ with_entered table place e))
    ⊎ ((¬ IsWalkedInto I L entered e) × (flags_after ≡ flags) × (after ≡ table))

-- each newly entered directory has a newly set flag
abbrev pub IsBounded : List Bool → List Entered → List Bool → List Entered → Type 0
IsBounded flags table flags_after after = count_by not flags_after + length after ≤ count_by not flags + length table
