-- Names of a tree of the host: the directories and the file of the volume that a path specifies, and why it specifies none.
use Rattle.std.specs.Prelude.{◌≡◌, ◌≢◌, ◌⊎◌, ◌≤◌, ℕ, List, [], ◌∷◌, ◌++◌, codes, Option, Some, None}
use Rattle.ods_text.specs.Cuts.{cut_of}
use Rattle.ods_text.specs.Numbers.{IsSmallNumber}
use Rattle.ods_base.specs.Name.{RadName, Spells, directory_type}
use Rattle.ods_base.specs.declared.name.Pick.TheVariants.{Highest}
use Rattle.ods_paths.specs.Patterns.{capitals}
use Rattle.ods_paths.specs.Steps.{step_of}
use Rattle.ods_upkeep.specs.HostNames.{IsNoName, IsTyped, IsUntyped, title_of, type_of}
use Rattle.ods_upkeep.specs.Meant.{SaysName}
use Rattle.ods_upkeep.specs.Refused.{no_memory}
use Rattle.ods_upkeep.specs.Target.{IsNoName as SpellsNone}
use Rattle.ods_upkeep.specs.Unmeant.{SaysNoName}
use Rattle.ods_upkeep.specs.Wayside.{IsParted}
use Rattle.ods_upkeep.specs.declared.failure.Why.{Why}
use Rattle.ods_upkeep.specs.declared.failure.Why.TheVariants.{BadName, DirectoryType, Put}
use Rattle.ods_upkeep.specs.declared.put_fault.PutFault.TheVariants.{Untyped}

-- A folder is the directory with its name as a step of a path: a group and a member have six octal digits, and any other name is itself. It is not
-- the master directory.
abbrev pub IsFolderName : List ℕ → RadName → Type 0
IsFolderName folder name = (text : List ℕ) × SaysName (step_of folder) (capitals text) × (text ≢ codes "000000") × Spells (capitals text ++ codes ".DIR") name Highest

-- why its name is not a directory: it selects several, or the master directory, or no name
abbrev pub IsNoFolderName : List ℕ → Why → Type 0
IsNoFolderName folder why =
    SaysNoName (step_of folder) why
    ⊎ ((text : List ℕ) × SaysName (step_of folder) (capitals text) × (((why ≡ BadName) × (text ≡ codes "000000")) ⊎ SpellsNone (capitals text) (codes "DIR") why))

-- these folders are the directories of these names
abbrev pub AreFolderNames : List (List ℕ) → List RadName → Type 0
AreFolderNames [] names = names ≡ []
AreFolderNames (folder ∷ folders) names = (name : RadName) × (rest : List RadName) × IsFolderName folder name × (names ≡ name ∷ rest) × AreFolderNames folders rest

-- one of these folders is not a directory, or there is no memory for the names
abbrev pub AreNoFolderNames : List (List ℕ) → Why → Type 0
AreNoFolderNames [] why = why ≡ no_memory
AreNoFolderNames (folder ∷ folders) why = IsNoFolderName folder why ⊎ ((why ≡ no_memory) ⊎ AreNoFolderNames folders why)

-- the folders of a path are the directories of these names
abbrev pub SaysFolders : List ℕ → List RadName → Type 0
SaysFolders path names = (folders : List (List ℕ)) × (last : List ℕ) × IsParted path folders last × AreFolderNames folders names

-- they are not
abbrev pub SaysNoFolders : List ℕ → Why → Type 0
SaysNoFolders path why = (folders : List (List ℕ)) (last : List ℕ) → IsParted path folders last → AreNoFolderNames folders why

-- digits specify a version
abbrev pub IsSaidVersion : List ℕ → ℕ → Type 0
IsSaidVersion digits version = IsSmallNumber digits version × (1 ≤ version) × (version ≤ 32767)

-- the type of a file's name is the part after its first dot; a second dot separates it from the version
abbrev pub SaysKindBy : Option (List ℕ × List ℕ) → List ℕ → List ℕ → RadName → Option ℕ → Type 0
SaysKindBy None title behind name version = Spells (capitals title ++ 46 ∷ capitals behind) name Highest × (version ≡ None)
SaysKindBy (Some cut) title behind name version = Spells (capitals title ++ 46 ∷ capitals cut.0) name Highest × ((n : ℕ) × IsSaidVersion cut.1 n × (version ≡ Some n))

abbrev pub SaysKind : List ℕ → List ℕ → RadName → Option ℕ → Type 0
SaysKind title behind name version = SaysKindBy (cut_of 46 behind) title behind name version

-- why they specify no type and no version
abbrev pub SaysNoKindBy : Option (List ℕ × List ℕ) → List ℕ → List ℕ → Why → Type 0
SaysNoKindBy None title behind why = SpellsNone (capitals title) (capitals behind) why
SaysNoKindBy (Some cut) title behind why = ((why ≡ BadName) × ((n : ℕ) → ¬ IsSaidVersion cut.1 n)) ⊎ SpellsNone (capitals title) (capitals cut.0) why

abbrev pub SaysNoKind : List ℕ → List ℕ → Why → Type 0
SaysNoKind title behind why = SaysNoKindBy (cut_of 46 behind) title behind why

-- A file's name on the host as a name of the volume, and its version if it has one: notes.txt.3 is version 3 of NOTES.TXT. It does not belong to a
-- directory.
pub record IsTreeName (host : List ℕ) (name : RadName) (version : Option ℕ) : Type 0 where
  pub whole : ¬ IsNoName host
  pub typed : IsTyped host
  pub said : SaysKind (title_of host) (type_of host) name version
  pub plain : name.ext ≢ directory_type

-- why it is not valid: it is no name, it has a character that is not typed, it spells none, or it belongs to a directory
pub data IsNoTreeName (host : List ℕ) : Why → Type 0 where
  nameless : IsNoName host → IsNoTreeName host BadName
  not_typed : (c : ℕ) → ¬ IsNoName host → IsUntyped host c → IsNoTreeName host (Put (Untyped c))
  unsaid : (why : Why) → ¬ IsNoName host → IsTyped host → SaysNoKind (title_of host) (type_of host) why → IsNoTreeName host why
  of_directory : (name : RadName) (version : Option ℕ) → SaysKind (title_of host) (type_of host) name version → name.ext ≡ directory_type → IsNoTreeName host DirectoryType

-- the part after the last slash is the name of a file, or nothing
abbrev pub MayBeFile : List ℕ → Type 0
MayBeFile last = (last ≡ []) ⊎ ((name : RadName) × (version : Option ℕ) × IsTreeName last name version)

-- The path specifies a location on the volume: each of its folders is a directory, and the part after them is a file, or nothing.
abbrev pub SaysPlace : List ℕ → Type 0
SaysPlace path = (folders : List (List ℕ)) × (last : List ℕ) × (names : List RadName) × IsParted path folders last × AreFolderNames folders names × MayBeFile last

-- why it specifies none
abbrev pub SaysNoPlace : List ℕ → Why → Type 0
SaysNoPlace path why = SaysNoFolders path why ⊎ ((folders : List (List ℕ)) × (last : List ℕ) × IsParted path folders last × (last ≢ []) × IsNoTreeName last why)
