-- The directory that a path of mkdir or rmdir selects: the directory above it, and its name.
use Rattle.std.specs.Prelude.{◌≡◌, ◌≢◌, ℕ, false, List, [], ◌∷◌, ◌++◌, Option, Some, None}
use Rattle.ods_paths.specs.declared.versions.Versions.{Versions}
use Rattle.ods_paths.specs.declared.versions.Versions.TheVariants.{Exact, Highest, Lowest, Every}
use Rattle.ods_paths.specs.Paths.{File, Folder, Said, Says, Within}
use Rattle.ods_paths.specs.Steps.{Step, Numbers, Pattern}
use Rattle.ods_upkeep.specs.Pieces.{octal_digits}
use Rattle.ods_upkeep.specs.Target.{MayBeDirectory}

-- the directories that these steps reach, and none below them
abbrev pub just_at : List Step → Folder
just_at steps = record { steps = steps; below = false }

-- The step specifies one name, or a pattern for it: a group and a member specify the six octal digits of the name of their directory. `*` for a group
-- or a member specifies none.
abbrev pub SaysName : Step → List ℕ → Type 0
SaysName (Numbers None member) name = ⊥
SaysName (Numbers (Some group) None) name = ⊥
SaysName (Numbers (Some group) (Some member)) name = name ≡ octal_digits group ++ octal_digits member
SaysName (Pattern pattern) name = name ≡ pattern

-- The last step specifies the name, and the steps before it reach the directory above. No steps are the master directory, which is in no directory.
abbrev pub IsLastStep : List Step → Folder → List ℕ → Type 0
IsLastStep steps up name = (before : List Step) × ((last : Step) × (steps ≡ before ++ last ∷ []) × SaysName last name × (up ≡ just_at before))

-- a directory has version 1 and no other: no version is given, or the highest one, or 1
abbrev pub MayBeFirst : Option Versions → Type 0
MayBeFirst None = Unit {0}
MayBeFirst (Some Highest) = Unit {0}
MayBeFirst (Some (Exact version)) = version ≡ 1
MayBeFirst (Some Lowest) = ⊥
MayBeFirst (Some Every) = ⊥

-- A path selects a directory: the one that it ends with, or files in a folder, if these may name a directory. An ID selects none.
abbrev pub IsMeant : List ℕ → Said → Folder → List ℕ → Type 0
IsMeant text (File file) up name = ⊥
IsMeant text (Within folder None) up name = (folder.below ≡ false) × IsLastStep folder.steps up name
IsMeant text (Within folder (Some files)) up name = MayBeDirectory text files.kind × MayBeFirst files.versions × (files.name ≢ []) × (up ≡ folder) × (name ≡ files.name)

-- The path selects the directories of this name, or pattern, in the directories of this folder.
abbrev pub Means : List ℕ → Folder → List ℕ → Type 0
Means path up name = (says : Said) × Says path says × IsMeant path says up name

-- the path selects directories that are in another one than the master directory
abbrev pub IsBelowAnother : List ℕ → Type 0
IsBelowAnother path = (up : Folder) × ((name : List ℕ) × Means path up name × (up.steps ≢ []))
