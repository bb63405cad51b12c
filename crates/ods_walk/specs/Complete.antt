-- A walk from the master directory is complete: it leaves out nothing that names reach.
use Rattle.std.specs.Prelude.{◌≡◌, ℕ, ◌<◌, List, [], ◌∷◌, length, map, nat_eq}
use Rattle.std.specs.List.{Contains, IsDistinct}
use Rattle.ods_base.specs.Name.{RadName}
use Rattle.ods_base.specs.declared.listed.Listed.{Listed}
use Rattle.ods_space.specs.Layout.{VolumeLayout}
use Rattle.ods_walk.specs.declared.tables.Entered.{Entered}
use Rattle.ods_walk.specs.Listing.{IsListing}
use Rattle.ods_walk.specs.Paths.{path_to, number_at}
use Rattle.ods_walk.specs.Walk.{Line, NamesDirectory, IsWalkBelow}

-- directory n has this entry
pub record HasEntry (I : List (List ℕ)) (L : VolumeLayout) (n : ℕ) (e : Listed) : Type 0 where
  pub lines : List Listed
  pub listing : IsListing I L n lines
  pub among : Contains lines e

-- these names reach directory m from directory n, each by an entry that names a directory
abbrev pub LeadsTo : List (List ℕ) → VolumeLayout → ℕ → List RadName → ℕ → Type 0
LeadsTo I L n [] m = n ≡ m
LeadsTo I L n (name ∷ names) m = (e : Listed) × HasEntry I L n e × (e.name ≡ name) × NamesDirectory I L e × LeadsTo I L e.file.number names m

-- These names reach directory m from directory n, each by an entry that names a directory outside the list of shut ones.
abbrev pub LeadsPast : List (List ℕ) → VolumeLayout → List ℕ → ℕ → List RadName → ℕ → Type 0
LeadsPast I L shut n [] m = n ≡ m
LeadsPast I L shut n (name ∷ names) m =
    (e : Listed) × HasEntry I L n e × (e.name ≡ name) × NamesDirectory I L e × (¬ Contains shut e.file.number) × LeadsPast I L shut e.file.number names m

-- The directories that a walk from directory n enters: each is the one that its path reaches past the shut ones; all that names reach like this are
-- in the list; and none is in it twice.
pub record AreReached (I : List (List ℕ)) (L : VolumeLayout) (n : ℕ) (shut : List ℕ) (directories : List Entered) : Type 0 where
  pub only : (place : ℕ) → place < length directories → LeadsPast I L shut n (path_to directories place) (number_at directories place)
  pub all : (names : List RadName) (m : ℕ) → LeadsPast I L shut n names m → Contains (map (λ d. d.number) directories) m
  pub once : IsDistinct nat_eq (map (λ d. d.number) directories)

-- Each line is an entry of a directory that its path reaches from the master directory. Each entry of a directory that names reach from there is on
-- some line of that directory.
pub record IsComplete (I : List (List ℕ)) (L : VolumeLayout) (lines : List Line) : Type 0 where
  pub only : (l : Line) → Contains lines l → LeadsTo I L 4 l.path l.directory × HasEntry I L l.directory l.entry
  pub all : (names : List RadName) (n : ℕ) (e : Listed) → LeadsTo I L 4 names n → HasEntry I L n e → (l : Line) × Contains lines l × (l.directory ≡ n) × (l.entry ≡ e)

-- the walk from the master directory is complete
abbrev pub WalksAreComplete : Type 0
WalksAreComplete = (I : List (List ℕ)) (L : VolumeLayout) (lines : List Line) → IsWalkBelow I L 4 lines → IsComplete I L lines
