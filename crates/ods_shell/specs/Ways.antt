-- The directories that the folder of a path selects.
use Rattle.std.specs.Prelude.{◌≡◌, ◌≢◌, ◌⊎◌, ℕ, Bool, true, false, List, [], ◌∷◌, ◌++◌, map, codes, nat_eq, Option, Some, None}
use Rattle.std.specs.List.{All, Contains, IsDistinct}
use Rattle.ods_base.specs.Name.{RadName, title}
use Rattle.ods_base.specs.declared.listed.Listed.{Listed}
use Rattle.ods_space.specs.Layout.{VolumeLayout}
use Rattle.ods_mount.specs.Faults.{IsDirectoryFile}
use Rattle.ods_paths.specs.Numbers.{IsNumberedName}
use Rattle.ods_paths.specs.Paths.{Files, Folder}
use Rattle.ods_paths.specs.Steps.{Step, Numbers, Pattern}
use Rattle.ods_paths.specs.declared.versions.Versions.TheVariants.{Highest}
use Rattle.ods_walk.specs.Complete.{LeadsPast}
use Rattle.ods_walk.specs.Walk.{NamesDirectory}
use Rattle.ods_shell.specs.Choosing.{AreEach, AreThose, IsChosen, IsPicked}
use Rattle.ods_shell.specs.Found.{AreLinesOf}
use Rattle.ods_shell.specs.declared.folders.Directory.{Directory}

-- the entry is a way: it names a directory, and not the master directory, which is file 4
pub record LeadsOn (I : List (List ℕ)) (L : VolumeLayout) (e : Listed) : Type 0 where
  pub names : NamesDirectory I L e
  pub other : e.file.number ≢ 4

-- the ways from directory n: its entries that are ways, in the order of a listing
abbrev pub AreOpenWays : List (List ℕ) → VolumeLayout → ℕ → List Listed → Type 0
AreOpenWays I L n ways = (lines : List Listed) × AreLinesOf I L n lines × AreThose (LeadsOn I L) lines ways

-- a closed directory has no ways
abbrev pub AreWays : List (List ℕ) → VolumeLayout → List ℕ → ℕ → List Listed → Type 0
AreWays I L closed n ways = (Contains closed n × (ways ≡ [])) ⊎ ((¬ Contains closed n) × AreOpenWays I L n ways)

-- the directory that an entry of this one names
abbrev pub IsBelow : List RadName → Listed → Directory → Type 0
IsBelow names e d = (d.number ≡ e.file.number) × (d.names.items ≡ names ++ e.name ∷ [])

-- the directories that these entries name, in their order
abbrev pub AreNamedIn : List RadName → List Listed → List Directory → Type 0
AreNamedIn names [] found = found ≡ []
AreNamedIn names (e ∷ entries) found = (d : Directory) × (rest : List Directory) × (found ≡ d ∷ rest) × IsBelow names e d × AreNamedIn names entries rest

-- a group or a member is the specified one, or none is specified
abbrev pub IsMeant : Option ℕ → ℕ → Type 0
IsMeant None n = Unit {0}
IsMeant (Some said) n = n ≡ said

-- the name consists of a selected group and a selected member
abbrev pub HasNumbers : Option ℕ → Option ℕ → Listed → Type 0
HasNumbers group member e = (g : ℕ) × (m : ℕ) × IsNumberedName (title e.name) g m × IsMeant group g × IsMeant member m

-- a pattern of a step matches a name of any type
abbrev pub step_files : List ℕ → Files
step_files name = record { name = name; kind = codes "*"; versions = None }

-- The step selects the way: its name consists of the group and the member, or the pattern matches it. If a name has several versions, the highest
-- is selected.
abbrev pub IsWayBy : Step → List Listed → Listed → Type 0
IsWayBy (Numbers group member) ways e = HasNumbers group member e × IsPicked Highest ways e
IsWayBy (Pattern name) ways e = IsChosen (step_files name) Highest ways e

-- From this directory a step reaches these.
abbrev pub IsStep : List (List ℕ) → VolumeLayout → List ℕ → Step → Directory → List Directory → Type 0
IsStep I L closed step from found =
    (ways : List Listed) × (those : List Listed) × AreWays I L closed from.number ways × AreThose (IsWayBy step ways) ways those × AreNamedIn from.names.items those found

-- From these directories, in order, a step reaches these.
abbrev pub AreSteps : List (List ℕ) → VolumeLayout → List ℕ → Step → List Directory → List Directory → Type 0
AreSteps I L closed step from found = AreEach (IsStep I L closed step) from found

-- The steps reach these directories, each step from the directories of the step before.
abbrev pub AreLedTo : List (List ℕ) → VolumeLayout → List ℕ → List Step → List Directory → List Directory → Type 0
AreLedTo I L closed [] from found = found ≡ from
AreLedTo I L closed (step ∷ steps) from found = (next : List Directory) × AreSteps I L closed step from next × AreLedTo I L closed steps next found

-- the master directory, with an empty list of names
abbrev pub AreMaster : List Directory → Type 0
AreMaster found = (master : Directory) × (found ≡ master ∷ []) × (master.number ≡ 4) × (master.names.items ≡ [])

-- the directories that steps reach from the master directory, including closed ones
abbrev pub AreStarts : List (List ℕ) → VolumeLayout → List ℕ → List Step → List Directory → Type 0
AreStarts I L closed steps found = (master : List Directory) × AreMaster master × AreLedTo I L closed steps master found

-- exactly the open ones of these directories
abbrev pub AreOpen : List ℕ → List Directory → List Directory → Type 0
AreOpen closed [] found = found ≡ []
AreOpen closed (d ∷ starts) found =
    (Contains closed d.number × AreOpen closed starts found) ⊎ ((¬ Contains closed d.number) × (rest : List Directory) × (found ≡ d ∷ rest) × AreOpen closed starts rest)

-- names reach the directory from an open one of these, without a closed one on the way
abbrev pub IsBelowOne : List (List ℕ) → VolumeLayout → List ℕ → List Directory → Directory → Type 0
IsBelowOne I L closed starts d =
    (start : Directory) × (names : List RadName) × Contains starts start × (¬ Contains closed start.number) × (d.names.items ≡ start.names.items ++ names)
    × LeadsPast I L (4 ∷ closed) start.number names d.number

-- The open ones of these directories, and all directories that names reach from them without a closed one on the way, each number once.
pub record AreAllBelow (I : List (List ℕ)) (L : VolumeLayout) (closed : List ℕ) (starts found : List Directory) : Type 0 where
  pub only : (d : Directory) → Contains found d → IsBelowOne I L closed starts d
  pub all : (start : Directory) (names : List RadName) (n : ℕ) → Contains starts start → ¬ Contains closed start.number → IsDirectoryFile I L start.number → LeadsPast I L (4 ∷ closed) start.number names n
      → Contains (map (λ d. d.number) found) n
  pub once : IsDistinct nat_eq (map (λ d. d.number) found)

-- the open ones of these directories; with `below`, all directories below them as well
abbrev pub AreOpenOrBelow : List (List ℕ) → VolumeLayout → List ℕ → Bool → List Directory → List Directory → Type 0
AreOpenOrBelow I L closed false starts found = AreOpen closed starts found
AreOpenOrBelow I L closed true starts found = AreAllBelow I L closed starts found

-- the directories that a folder selects, without closed ones and without directories that only names in closed ones reach
abbrev pub AreMeant : List (List ℕ) → VolumeLayout → List ℕ → Folder → List Directory → Type 0
AreMeant I L closed folder found = (starts : List Directory) × AreStarts I L closed folder.steps starts × AreOpenOrBelow I L closed folder.below starts found

-- closed directories are added to the met ones, or none
abbrev pub AreMet : List ℕ → List Directory → List Directory → Type 0
AreMet closed before after = (more : List Directory) × (after ≡ before ++ more) × All (λ d. Contains closed d.number) more

-- The result is valid for these closed directories: exactly the given ones; or none, if no closed one was met on the way.
abbrev pub CountAsClosed : List ℕ → List Directory → List ℕ → Type 0
CountAsClosed closed met shut = (shut ≡ closed) ⊎ ((met ≡ []) × (shut ≡ []))
