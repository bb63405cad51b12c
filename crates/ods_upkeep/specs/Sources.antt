-- The files that the words of a command select, each once, in the order in which they are changed.
use Rattle.std.specs.Prelude.{◌≡◌, ◌⊎◌, ℕ, List, [], ◌∷◌, ◌++◌, reverse, Option, Some, None}
use Rattle.std.specs.Borrow.{Bor}
use Rattle.std.specs.List.{Contains}
use Rattle.ods_space.specs.Layout.{VolumeLayout}
use Rattle.ods_paths.specs.Paths.{Said, Says}
use Rattle.ods_shell.specs.declared.alone.Unsaid.{Unsaid}
use Rattle.ods_shell.specs.declared.facts.Facts.{Facts}
use Rattle.ods_shell.specs.declared.found.EntryPlace.{EntryPlace}
use Rattle.ods_shell.specs.declared.found.Found.{Found}
use Rattle.ods_shell.specs.Named.{AreNamedBy}

-- this is the selection of a path; if it does not specify everything, this applies
abbrev pub AreOfPath : List (List ℕ) → VolumeLayout → Unsaid → List ℕ → List Found → Type 0
AreOfPath I L unsaid path found = (says : Said) × Says path says × AreNamedBy I L [] says unsaid found

-- The files of these paths, one path after another. The files of one path are reversed, so that the versions of one name rise.
abbrev pub AreOfPaths : List (List ℕ) → VolumeLayout → Unsaid → List (Bor (List ℕ)) → List Found → Type 0
AreOfPaths I L unsaid [] all = all ≡ []
AreOfPaths I L unsaid (path ∷ paths) all =
    (here : List Found) × (rest : List Found) × (all ≡ reverse here ++ rest) × AreOfPath I L unsaid path.now here × AreOfPaths I L unsaid paths rest

-- two entries are one: the entry of this name and version in this directory
pub record IsSameEntry (a b : EntryPlace) : Type 0 where
  pub directory : a.directory.number ≡ b.directory.number
  pub name : a.entry.name ≡ b.entry.name
  pub version : a.entry.version ≡ b.entry.version

-- two files that are named by their IDs are one
abbrev pub IsSameFile : Option Facts → Option Facts → Type 0
IsSameFile (Some a) (Some b) = a.file ≡ b.file
IsSameFile (Some a) None = ⊥
IsSameFile None (Some b) = ⊥
IsSameFile None None = Unit {0}

-- two that were found are one: the same entry, or without an entry the same file
abbrev pub IsSameOne : Option EntryPlace → Option EntryPlace → Option Facts → Option Facts → Type 0
IsSameOne (Some a) (Some b) known other = IsSameEntry a b
IsSameOne (Some a) None known other = ⊥
IsSameOne None (Some b) known other = ⊥
IsSameOne None None known other = IsSameFile known other

abbrev pub IsSame : Found → Found → Type 0
IsSame x y = IsSameOne x.place y.place x.facts y.facts

-- one of these is the same
abbrev pub IsAgain : List Found → Found → Type 0
IsAgain seen x = (y : Found) × Contains seen y × IsSame y x

-- After the files that were seen before, exactly the first of each that is not seen yet, in their order.
abbrev pub AreFirst : List Found → List Found → List Found → Type 0
AreFirst seen [] once = once ≡ []
AreFirst seen (x ∷ xs) once = (IsAgain seen x × AreFirst (seen ++ x ∷ []) xs once) ⊎ ((¬ IsAgain seen x) × (rest : List Found) × (once ≡ x ∷ rest) × AreFirst (seen ++ x ∷ []) xs rest)

-- the files of these paths, each once
abbrev pub AreSources : List (List ℕ) → VolumeLayout → Unsaid → List (Bor (List ℕ)) → List Found → Type 0
AreSources I L unsaid paths once = (all : List Found) × AreOfPaths I L unsaid paths all × AreFirst [] all once
