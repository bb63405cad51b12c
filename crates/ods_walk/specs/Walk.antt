-- The walk over the directories below one: depth first, in listing order, each directory entered once.
use Rattle.std.specs.Prelude.{◌≡◌, ℕ, ◌⊎◌, List, [], ◌∷◌, ◌++◌, map}
use Rattle.std.specs.List.{Contains}
use Rattle.ods_base.specs.Name.{RadName, directory_type}
use Rattle.ods_base.specs.declared.listed.Listed.{Listed}
use Rattle.ods_header.specs.Header.{sequence_of}
use Rattle.ods_space.specs.Layout.{VolumeLayout, header_at}
use Rattle.ods_mount.specs.Faults.{IsDirectoryFile}
use Rattle.ods_walk.specs.Listing.{IsListing}

-- a line of a walk: an entry, its directory, and the path of the directory from the start of the walk
pub record Line : Type 0 where
  pub path : List RadName
  pub directory : ℕ
  pub entry : Listed

-- the entry names a directory: its type is DIR, and its file exists and is a directory
pub record NamesDirectory (I : List (List ℕ)) (L : VolumeLayout) (e : Listed) : Type 0 where
  pub type : e.name.ext ≡ directory_type
  pub file : IsDirectoryFile I L e.file.number
  pub sequence : sequence_of (header_at I L e.file.number) ≡ e.file.sequence

-- the walk enters the directory of the entry: it names a directory that is not entered yet
abbrev pub IsWalkedInto : List (List ℕ) → VolumeLayout → List ℕ → Listed → Type 0
IsWalkedInto I L entered e = NamesDirectory I L e × ¬ Contains entered e.file.number

-- the lines of directory n, whose path is this
abbrev pub below : List RadName → ℕ → List Listed → List Line
below path n entries = map (λ e. record { path = path; directory = n; entry = e }) entries

-- The walk with these entered directories and these lines still to come: the first of them is the next one. If the walk enters its directory, the
-- lines of that directory come before the others.
abbrev pub Walks : List (List ℕ) → VolumeLayout → List ℕ → List Line → List Line → Type 0
Walks I L entered [] [] = Unit {0}
Walks I L entered [] (l ∷ ls) = ⊥
Walks I L entered (p ∷ ps) [] = ⊥
Walks I L entered (p ∷ ps) (l ∷ ls) =
    (l ≡ p)
    × ((IsWalkedInto I L entered p.entry × (entries : List Listed) × IsListing I L p.entry.file.number entries
    × Walks I L (p.entry.file.number ∷ entered) (below (p.path ++ p.entry.name ∷ []) p.entry.file.number entries ++ ps) ls)
    ⊎ ((¬ IsWalkedInto I L entered p.entry) × Walks I L entered ps ls))

-- These are the lines of the walk below directory n that enters none of the closed directories: they, directory n and the master directory count as
-- entered.
abbrev pub IsWalkPast : List (List ℕ) → VolumeLayout → ℕ → List ℕ → List Line → Type 0
IsWalkPast I L n closed lines = (entries : List Listed) × IsListing I L n entries × Walks I L (n ∷ 4 ∷ closed) (below [] n entries) lines

-- these are the lines of the walk below directory n, without closed directories
abbrev pub IsWalkBelow : List (List ℕ) → VolumeLayout → ℕ → List Line → Type 0
IsWalkBelow I L n lines = IsWalkPast I L n [] lines
