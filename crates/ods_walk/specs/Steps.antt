-- A walk in progress: the entered directories, and the pile of lines that are still to come.
use Rattle.std.specs.Prelude.{◌≡◌, ℕ, ◌<◌, Bool, false, List, [], ◌∷◌, ◌++◌, length, reverse, slice_index_or, MatchBool}
use Rattle.std.specs.List.{All, Contains}
use Rattle.ods_base.specs.declared.listed.Listed.{Listed}
use Rattle.ods_space.specs.Layout.{VolumeLayout}
use Rattle.ods_walk.specs.Walk.{IsWalkedInto}
use Rattle.ods_walk.specs.declared.tables.Line.{Line as Placed}

-- the flags of all numbers: a flag is set if its number is entered
pub record AreEntered (flags : List Bool) (entered : List ℕ) : Type 0 where
  pub size : length flags ≡ 65536
  pub each : (n : ℕ) → n < 65536 → MatchBool (slice_index_or flags n false) (Contains entered n) (¬ Contains entered n)

-- the line with this entry in the directory at this index
abbrev pub placed : ℕ → Listed → Placed
placed place e = record { directory = place; entry = e }

-- the lines of a pile, from its top, which has them from the last one on
abbrev pub from_top : List Placed → List Placed
from_top pile = reverse pile

-- if these numbers are entered, each of these lines is passed: the walk enters no directory of them
abbrev pub ArePassed : List (List ℕ) → VolumeLayout → List Bool → List Placed → Type 0
ArePassed I L flags passed = (entered : List ℕ) → AreEntered flags entered → All (λ l. ¬ IsWalkedInto I L entered l.entry) passed

-- all lines of a pile are passed
pub record IsPast (I : List (List ℕ)) (L : VolumeLayout) (flags : List Bool) (pile before after : List Placed) : Type 0 where
  pub are : ArePassed I L flags (from_top pile)
  pub lines : after ≡ before ++ from_top pile

-- lines of a pile are passed up to this one, whose directory the walk enters; this is the rest of the pile
pub record IsStop (I : List (List ℕ)) (L : VolumeLayout) (flags : List Bool) (pile before rest after : List Placed) (line : Placed) : Type 0 where
  pub passed : List Placed
  pub are : ArePassed I L flags passed
  pub order : from_top pile ≡ passed ++ line ∷ from_top rest
  pub lines : after ≡ before ++ (passed ++ line ∷ [])
  pub into : (entered : List ℕ) → AreEntered flags entered → IsWalkedInto I L entered line.entry
