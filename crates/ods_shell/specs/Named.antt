-- The files that a path selects, as the commands receive them.
use Rattle.std.specs.Prelude.{◌≡◌, ◌≢◌, ◌<◌, ◌⊎◌, ℕ, true, false, List, [], ◌∷◌, ◌++◌, length, codes, Option, Some, None, MatchOption, slice_get}
use Rattle.std.specs.Option.{option_or}
use Rattle.ods_base.specs.declared.file_id.FileId.{FileId}
use Rattle.ods_base.specs.declared.listed.Listed.{Listed}
use Rattle.ods_header.specs.Header.{sequence_of}
use Rattle.ods_space.specs.Layout.{VolumeLayout, header_at}
use Rattle.ods_paths.specs.declared.versions.Versions.{Versions}
use Rattle.ods_paths.specs.declared.versions.Versions.TheVariants as versions
use Rattle.ods_paths.specs.Bad.{IsBad}
use Rattle.ods_paths.specs.Paths.{Files, Folder, Said, Says, File, Within}
use Rattle.ods_paths.specs.Steps.{Step}
use Rattle.ods_walk.specs.declared.tables.Line.{Line}
use Rattle.ods_shell.specs.declared.alone.Alone.{Alone}
use Rattle.ods_shell.specs.declared.alone.Alone.TheVariants as alone
use Rattle.ods_shell.specs.declared.alone.Unsaid.{Unsaid}
use Rattle.ods_shell.specs.declared.facts.Facts.{Facts}
use Rattle.ods_shell.specs.declared.facts.Kind.TheVariants as kind
use Rattle.ods_shell.specs.declared.folders.Directory.{Directory}
use Rattle.ods_shell.specs.declared.found.Found.{Found}
use Rattle.ods_shell.specs.Facts.{AreFacts}
use Rattle.ods_shell.specs.declared.path_fault.PathFault.{PathFault}
use Rattle.ods_shell.specs.declared.path_fault.PathFault.TheVariants as fault
use Rattle.ods_shell.specs.Choosing.{AreEach, AreThose}
use Rattle.ods_shell.specs.Found.{AreFound}
use Rattle.ods_shell.specs.Ways.{AreMeant, AreStarts, AreWays, IsWayBy}

-- the facts of the file with this ID; none if there is no such file
abbrev pub IsKnown : List (List ℕ) → VolumeLayout → FileId → Option Facts → Type 0
IsKnown I L file known = MatchOption known ((facts : Facts) → AreFacts I L file.number facts → facts.file ≢ file) (λ facts. AreFacts I L file.number facts × (facts.file ≡ file))

-- the ID of directory n
abbrev pub id_of : List (List ℕ) → VolumeLayout → ℕ → FileId
id_of I L n = record { number = n; sequence = sequence_of (header_at I L n) }

-- this is the entry of this directory, with the facts of the file that it names
pub record IsEntryOf (I : List (List ℕ)) (L : VolumeLayout) (directory : Directory) (entry : Listed) (found : Found) : Type 0 where
  pub stands : found.place ≡ Some (record { directory = id_of I L directory.number; entry = entry })
  pub known : IsKnown I L entry.file found.facts

-- the directory of each line is one of these
abbrev pub AreWithin : List Directory → List Line → Type 0
AreWithin directories lines = (k : ℕ) (line : Line) → slice_get lines k ≡ Some line → line.directory < length directories

-- one result for each of these lines, in their order: the entry of the line in its directory
abbrev pub AreLines : List (List ℕ) → VolumeLayout → List Directory → List Line → List Found → Type 0
AreLines I L directories [] found = found ≡ []
AreLines I L directories (line ∷ lines) found =
    (directory : Directory) × (slice_get directories line.directory ≡ Some directory)
    × ((one : Found) × ((rest : List Found) × (found ≡ one ∷ rest) × IsEntryOf I L directory line.entry one × AreLines I L directories lines rest))

-- In the directories that the folder selects, these are the lines that the files choose, with the versions of the path, or otherwise the default
-- ones.
abbrev pub AreNamed : List (List ℕ) → VolumeLayout → List ℕ → Folder → Files → Option Versions → List Found → Type 0
AreNamed I L closed folder files unsaid found = (versions : Versions) × (option_or files.versions unsaid ≡ Some versions)
    × ((directories : List Directory) × AreMeant I L closed folder directories × ((lines : List Line) × AreFound I L (Some files) versions 0 directories lines × AreLines I L directories lines found))

-- the path selects this one file by its ID
abbrev pub IsFileOf : List (List ℕ) → VolumeLayout → FileId → List Found → Type 0
IsFileOf I L file found = (one : Found) × (found ≡ one ∷ []) × (one.place ≡ None)
    × ((facts : Facts) × (one.facts ≡ Some facts) × AreFacts I L file.number facts × (facts.file ≡ file))

-- the file that one entry of a directory names
abbrev pub IsOne : List (List ℕ) → VolumeLayout → Directory → Listed → List Found → Type 0
IsOne I L directory entry found = (one : Found) × (found ≡ one ∷ []) × IsEntryOf I L directory entry one

-- the files that these entries of a directory name, in their order
abbrev pub AreEntries : List (List ℕ) → VolumeLayout → Directory → List Listed → List Found → Type 0
AreEntries I L directory entries found = AreEach (IsOne I L directory) entries found

-- the entries that a step selects in this directory
abbrev pub AreLedBy : List (List ℕ) → VolumeLayout → List ℕ → Step → Directory → List Found → Type 0
AreLedBy I L closed step from found =
    (ways : List Listed) × (those : List Listed) × AreWays I L closed from.number ways × AreThose (IsWayBy step ways) ways those × AreEntries I L from those found

-- the entries that a last step selects in the directories that the steps before it reach
abbrev pub AreLed : List (List ℕ) → VolumeLayout → List ℕ → List Step → Step → List Found → Type 0
AreLed I L closed before last found = (starts : List Directory) × AreStarts I L closed before starts × AreEach (AreLedBy I L closed last) starts found

-- the name of the master directory in itself
abbrev pub master_file : Files
master_file = record { name = codes "000000"; kind = codes "DIR"; versions = Some versions.Highest }

-- The files of the directories themselves that a folder selects: the master directory, or the directories that its last step reaches. A folder with
-- all directories below has none.
abbrev pub AreThemselves : List (List ℕ) → VolumeLayout → List ℕ → Folder → List Found → Type 0
AreThemselves I L closed folder found = (folder.below ≡ false)
    × (((folder.steps ≡ []) × AreNamed I L closed folder master_file None found)
    ⊎ ((before : List Step) × (last : Step) × (folder.steps ≡ before ++ last ∷ []) × AreLed I L closed before last found))

-- the found file is not a directory
abbrev pub IsNoDirectory : Found → Type 0
IsNoDirectory found = MatchOption found.facts (Unit {0}) (λ facts. facts.kind ≢ kind.Directory)

abbrev pub every_file : Files
every_file = record { name = codes "*"; kind = codes "*"; versions = None }

-- the files in the directories that a folder selects, without directories
abbrev pub AreInside : List (List ℕ) → VolumeLayout → List ℕ → Folder → Option Versions → List Found → Type 0
AreInside I L closed folder unsaid found = (all : List Found) × AreNamed I L closed folder every_file unsaid all × AreThose IsNoDirectory all found

-- the selection of a path that is only a folder
abbrev pub AreAlone : List (List ℕ) → VolumeLayout → List ℕ → Folder → Option Versions → Alone → List Found → Type 0
AreAlone I L closed folder unsaid alone.Refused found = ⊥
AreAlone I L closed folder unsaid alone.Files found = AreInside I L closed folder unsaid found
AreAlone I L closed folder unsaid alone.Themselves found = AreThemselves I L closed folder found

-- the highest version as the default, and this selection for a path that is only a folder
abbrev pub highest : Alone → Unsaid
highest meaning = record { versions = Some versions.Highest; alone = meaning }

-- the selection of a path with this meaning
abbrev pub AreNamedBy : List (List ℕ) → VolumeLayout → List ℕ → Said → Unsaid → List Found → Type 0
AreNamedBy I L closed (File file) unsaid found = IsFileOf I L file found
AreNamedBy I L closed (Within folder None) unsaid found = AreAlone I L closed folder unsaid.versions unsaid.alone found
AreNamedBy I L closed (Within folder (Some files)) unsaid found = AreNamed I L closed folder files unsaid.versions found

-- The reason why files of a folder are not selected: versions are required and not specified; or there are no files, and no directory on the way is
-- closed.
abbrev pub AreNotNamed : List (List ℕ) → VolumeLayout → Folder → Files → Option Versions → PathFault → Type 0
AreNotNamed I L folder files unsaid fault.NoMemory = Unit {0}
AreNotNamed I L folder files unsaid fault.NoVersion = option_or files.versions unsaid ≡ None
AreNotNamed I L folder files unsaid fault.Nothing = AreNamed I L [] folder files unsaid []
AreNotNamed I L folder files unsaid (fault.Bad bad) = ⊥
AreNotNamed I L folder files unsaid fault.NoName = ⊥
AreNotNamed I L folder files unsaid fault.IsId = ⊥
AreNotNamed I L folder files unsaid fault.NoSuchFile = ⊥

-- The reason why only a folder selects nothing: the command requires files; the folder includes all directories below, which no single path
-- selects; or there are no files.
abbrev pub IsNoneAlone : List (List ℕ) → VolumeLayout → Folder → Option Versions → Alone → PathFault → Type 0
IsNoneAlone I L folder unsaid meaning fault.NoMemory = Unit {0}
IsNoneAlone I L folder unsaid meaning fault.NoName = (meaning ≡ alone.Refused) ⊎ ((meaning ≡ alone.Themselves) × (folder.below ≡ true))
IsNoneAlone I L folder unsaid meaning fault.NoVersion = (meaning ≡ alone.Files) × (unsaid ≡ None)
IsNoneAlone I L folder unsaid meaning fault.Nothing = AreAlone I L [] folder unsaid meaning []
IsNoneAlone I L folder unsaid meaning (fault.Bad bad) = ⊥
IsNoneAlone I L folder unsaid meaning fault.IsId = ⊥
IsNoneAlone I L folder unsaid meaning fault.NoSuchFile = ⊥

-- the reason why the files of a folder, or only the folder, select nothing
abbrev pub AreNoneOf : List (List ℕ) → VolumeLayout → Folder → Option Files → Unsaid → PathFault → Type 0
AreNoneOf I L folder None unsaid why = IsNoneAlone I L folder unsaid.versions unsaid.alone why
AreNoneOf I L folder (Some files) unsaid why = AreNotNamed I L folder files unsaid.versions why

-- the path is a folder, or files in a folder, and selects nothing for this reason
abbrev pub IsUnnamed : List (List ℕ) → VolumeLayout → List ℕ → Unsaid → PathFault → Type 0
IsUnnamed I L path unsaid why = (folder : Folder) × (files : Option Files) × Says path (Within folder files) × AreNoneOf I L folder files unsaid why

-- The reason why a path selects nothing.
abbrev pub IsPathFault : List (List ℕ) → VolumeLayout → List ℕ → Unsaid → PathFault → Type 0
IsPathFault I L path unsaid fault.NoMemory = Unit {0}
IsPathFault I L path unsaid (fault.Bad bad) = IsBad path bad
IsPathFault I L path unsaid fault.NoName = IsUnnamed I L path unsaid fault.NoName
IsPathFault I L path unsaid fault.NoSuchFile = (file : FileId) × Says path (File file) × ((facts : Facts) → AreFacts I L file.number facts → facts.file ≢ file)
IsPathFault I L path unsaid fault.NoVersion = IsUnnamed I L path unsaid fault.NoVersion
IsPathFault I L path unsaid fault.Nothing = IsUnnamed I L path unsaid fault.Nothing
IsPathFault I L path unsaid fault.IsId = ⊥
