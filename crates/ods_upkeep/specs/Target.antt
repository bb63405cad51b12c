-- The target of names that a path specifies.
use Rattle.std.specs.Prelude.{◌≡◌, ◌≢◌, ◌⊎◌, ◌<◌, ℕ, false, List, [], ◌∷◌, ◌++◌, length, codes, Option, Some, None, IfSome}
use Rattle.ods_text.specs.Cuts.{Lacks}
use Rattle.ods_base.specs.Name.{RadName, Spells}
use Rattle.ods_base.specs.declared.file_id.FileId.{FileId}
use Rattle.ods_base.specs.declared.name.Pick.TheVariants as pick
use Rattle.ods_space.specs.Layout.{VolumeLayout}
use Rattle.ods_paths.specs.declared.bad.BadPath.{BadPath}
use Rattle.ods_paths.specs.Bad.{IsBad}
use Rattle.ods_paths.specs.declared.versions.Versions.{Versions}
use Rattle.ods_paths.specs.declared.versions.Versions.TheVariants.{Exact, Highest, Lowest, Every}
use Rattle.ods_paths.specs.Paths.{File, Files, Folder, Said, Says, Within}
use Rattle.ods_paths.specs.Patterns.{has_wildcard}
use Rattle.ods_shell.specs.declared.facts.Facts.{Facts}
use Rattle.ods_shell.specs.declared.facts.Kind.TheVariants.{Directory}
use Rattle.ods_shell.specs.declared.folders.Directory.{Directory as Holder}
use Rattle.ods_shell.specs.declared.found.Found.{Found}
use Rattle.ods_shell.specs.declared.path_fault.PathFault.TheVariants as fault
use Rattle.ods_shell.specs.Facts.{AreFacts}
use Rattle.ods_shell.specs.Named.{AreNamed, IsKnown}
use Rattle.ods_shell.specs.Ways.{AreMeant}
use Rattle.ods_upkeep.specs.Hidden.{HidesEntries}
use Rattle.ods_upkeep.specs.Pieces.{last_part}
use Rattle.ods_upkeep.specs.Refused.{no_memory}
use Rattle.ods_upkeep.specs.declared.failure.Why.{Why}
use Rattle.ods_upkeep.specs.declared.failure.Why.TheVariants.{Path, BadName, IsId, Several, Hidden}
use Rattle.ods_upkeep.specs.declared.target.Target.{Target}

-- the ID of the one directory that a folder selects
pub record IsTheDirectory (I : List (List ℕ)) (L : VolumeLayout) (folder : Folder) (file : FileId) : Type 0 where
  pub directory : Holder
  pub one : AreMeant I L [] folder (directory ∷ [])
  pub facts : Facts
  pub are : AreFacts I L directory.number facts
  pub same : facts.file ≡ file

-- a directory, in which each file keeps its name
pub record IsWhole (file : FileId) (to : Target) : Type 0 where
  pub directory : to.directory ≡ file
  pub name : to.name ≡ None
  pub version : to.version ≡ None

-- a path with this type may name a directory: the type is DIR; or there is none, and no dot either
abbrev pub MayBeDirectory : List ℕ → List ℕ → Type 0
MayBeDirectory path kind = (kind ≡ codes "DIR") ⊎ ((kind ≡ []) × Lacks 46 (last_part path))

-- the directory of this name in the folder, the highest version
pub record IsDirectoryNamed (I : List (List ℕ)) (L : VolumeLayout) (folder : Folder) (name : List ℕ) (file : FileId) : Type 0 where
  pub found : Found
  pub one : AreNamed I L [] folder (record { name = name; kind = codes "DIR"; versions = Some Highest }) None (found ∷ [])
  pub facts : Facts
  pub known : found.facts ≡ Some facts
  pub is : facts.kind ≡ Directory
  pub same : facts.file ≡ file

-- exactly one was found, which is this directory
pub record IsAlone (all : List Found) (file : FileId) : Type 0 where
  pub found : Found
  pub one : all ≡ found ∷ []
  pub facts : Facts
  pub known : found.facts ≡ Some facts
  pub is : facts.kind ≡ Directory
  pub same : facts.file ≡ file

-- the version for a name is given; or it is the next one
abbrev pub SaysVersion : Option Versions → Option ℕ → Type 0
SaysVersion None version = version ≡ None
SaysVersion (Some Highest) version = version ≡ None
SaysVersion (Some (Exact said)) version = version ≡ Some said
SaysVersion (Some Lowest) version = ⊥
SaysVersion (Some Every) version = ⊥

-- the path names an existing directory, and no version
pub record IsInto (I : List (List ℕ)) (L : VolumeLayout) (path : List ℕ) (folder : Folder) (files : Files) (file : FileId) : Type 0 where
  pub unsaid : SaysVersion files.versions None
  pub may_be : MayBeDirectory path files.kind
  pub there : IsDirectoryNamed I L folder files.name file

-- the path gives a name in the one directory that its folder selects
pub record GivesName (I : List (List ℕ)) (L : VolumeLayout) (folder : Folder) (files : Files) (to : Target) : Type 0 where
  pub directory : IsTheDirectory I L folder to.directory
  pub name : RadName
  pub spelled : Spells (files.name ++ 46 ∷ files.kind) name pick.Highest
  pub given : to.name ≡ Some name
  pub version : SaysVersion files.versions to.version

-- no pattern
pub record AreExact (files : Files) : Type 0 where
  pub name : has_wildcard files.name ≡ false
  pub kind : has_wildcard files.kind ≡ false

-- the target of a path that specifies this
abbrev pub IsTargetOf : List (List ℕ) → VolumeLayout → List ℕ → Said → Target → Type 0
IsTargetOf I L path (File file) to = IsWhole file to × ((facts : Facts) × AreFacts I L file.number facts × (facts.file ≡ file) × (facts.kind ≡ Directory))
IsTargetOf I L path (Within folder None) to = (file : FileId) × IsTheDirectory I L folder file × IsWhole file to
IsTargetOf I L path (Within folder (Some files)) to =
    AreExact files × (((file : FileId) × IsInto I L path folder files file × IsWhole file to) ⊎ (((file : FileId) → ¬ IsInto I L path folder files file) × GivesName I L folder files to))

-- The target that a path specifies for this number of files. A name is the target of one file, and a directory that hides entries takes none.
pub record IsTarget (I : List (List ℕ)) (L : VolumeLayout) (count : ℕ) (path : List ℕ) (to : Target) : Type 0 where
  pub says : Said
  pub said : Says path says
  pub target : IsTargetOf I L path says to
  pub shows : ¬ HidesEntries I L to.directory.number
  pub one : 1 < count → to.name ≡ None

-- a folder selects no directory, or one of which nothing is known
abbrev pub MeansNothing : List (List ℕ) → VolumeLayout → Folder → Type 0
MeansNothing I L folder = AreMeant I L [] folder [] ⊎ ((directory : Holder) × AreMeant I L [] folder (directory ∷ []) × ((facts : Facts) → ¬ AreFacts I L directory.number facts))

-- a folder selects more than one directory
abbrev pub MeansSeveral : List (List ℕ) → VolumeLayout → Folder → Type 0
MeansSeveral I L folder = (all : List Holder) × AreMeant I L [] folder all × (1 < length all)

-- why a folder does not select one directory: it selects none or several, or there is no memory to determine which
abbrev pub IsNoDirectory : List (List ℕ) → VolumeLayout → Folder → Why → Type 0
IsNoDirectory I L folder why = ((why ≡ Path fault.Nothing) × MeansNothing I L folder) ⊎ (((why ≡ Several) × MeansSeveral I L folder) ⊎ (why ≡ no_memory))

-- the ID is not the ID of a file, or of one that is no directory
abbrev pub IsIdOfNone : List (List ℕ) → VolumeLayout → FileId → Why → Type 0
IsIdOfNone I L file why = (why ≡ IsId) × ((known : Option Facts) × IsKnown I L file known × IfSome known (λ facts. facts.kind ≢ Directory))

-- versions that select none for one name
abbrev pub SaysNoVersion : Option Versions → Type 0
SaysNoVersion versions = (version : Option ℕ) → ¬ SaysVersion versions version

-- why these characters with this type are not a valid name: they spell none, or there is no memory to determine it
abbrev pub IsNoName : List ℕ → List ℕ → Why → Type 0
IsNoName name kind why = ((why ≡ BadName) × ((n : RadName) → ¬ Spells (name ++ 46 ∷ kind) n pick.Highest)) ⊎ (why ≡ no_memory)

-- one directory is selected, the name does not exist in it, and the given one is not a valid name
abbrev pub GivesNoName : List (List ℕ) → VolumeLayout → List ℕ → Folder → Files → Why → Type 0
GivesNoName I L path folder files why =
    ((file : FileId) → ¬ IsInto I L path folder files file) × ((directory : FileId) × IsTheDirectory I L folder directory × IsNoName files.name files.kind why)

-- why files in a folder are no target: patterns or several versions are given, the folder does not select one directory, or the name is not valid
abbrev pub AreNoTarget : List (List ℕ) → VolumeLayout → List ℕ → Folder → Files → Why → Type 0
AreNoTarget I L path folder files why =
    ((why ≡ Several) × ((¬ AreExact files) ⊎ SaysNoVersion files.versions)) ⊎ (IsNoDirectory I L folder why ⊎ GivesNoName I L path folder files why)

-- why a path with this content is no target
abbrev pub IsNoTargetOf : List (List ℕ) → VolumeLayout → List ℕ → Said → Why → Type 0
IsNoTargetOf I L path (File file) why = IsIdOfNone I L file why
IsNoTargetOf I L path (Within folder None) why = IsNoDirectory I L folder why
IsNoTargetOf I L path (Within folder (Some files)) why = AreNoTarget I L path folder files why

-- why a target is closed: its directory hides entries, or there is no memory to determine whether it does
abbrev pub IsClosed : List (List ℕ) → VolumeLayout → Target → Why → Type 0
IsClosed I L to why = ((why ≡ Hidden) × HidesEntries I L to.directory.number) ⊎ (why ≡ no_memory)

-- Why a path is no target: it is not a valid path, its content is no target, or its target is closed.
abbrev pub SaysNoTarget : List (List ℕ) → VolumeLayout → List ℕ → Why → Type 0
SaysNoTarget I L path why =
    ((bad : BadPath) × (why ≡ Path (fault.Bad bad)) × IsBad path bad)
    ⊎ ((says : Said) × Says path says × (IsNoTargetOf I L path says why ⊎ ((to : Target) × IsTargetOf I L path says to × IsClosed I L to why)))

-- Why a path has no target for this number of files: it specifies none; or it gives a name, and there are several.
abbrev pub IsNoTarget : List (List ℕ) → VolumeLayout → ℕ → List ℕ → Why → Type 0
IsNoTarget I L count path why = SaysNoTarget I L path why ⊎ ((why ≡ Several) × (1 < count) × ((to : Target) × IsTarget I L 1 path to × (to.name ≢ None)))
