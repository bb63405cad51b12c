-- The files that the paths of a command select.
use Rattle.std.specs.Prelude.{◌≡◌, ◌≢◌, ◌⊎◌, ◌==◌, ◌&&◌, ◌||◌, ℕ, Bool, true, not, is_some, List, [], ◌++◌, Option}
use Rattle.std.specs.List.{list_any}
use Rattle.ods_base.specs.declared.file_id.Uic.{Uic}
use Rattle.ods_paths.specs.Paths.{Files, Folder, Said, Says, Within}
use Rattle.ods_paths.specs.declared.versions.Versions.TheVariants as versions
use Rattle.ods_shell.specs.Found.{AreFound, HasPathStatus}
use Rattle.ods_shell.specs.Named.{AreNamedBy, IsPathFault, highest}
use Rattle.ods_shell.specs.Twins.{HaveTwins}
use Rattle.ods_shell.specs.Ways.{AreMeant, CountAsClosed}
use Rattle.ods_shell.specs.declared.alone.Alone.{Alone}
use Rattle.ods_shell.specs.declared.alone.Alone.TheVariants as alone
use Rattle.ods_shell.specs.declared.finding.FoundLines.{FoundLines}
use Rattle.ods_shell.specs.declared.folders.Directory.{Directory as Met}
use Rattle.ods_shell.specs.declared.found.Found.{Found}
use Rattle.ods_shell.specs.declared.path_fault.PathFault.{PathFault}
use Rattle.ods_shell.specs.declared.path_fault.PathFault.TheVariants.{NoMemory}
use Rattle.ods_shell.specs.declared.status.Status.{Status}
use Rattle.ods_shell.specs.declared.status.Status.TheVariants.{Refused}
use Rattle.ods_space.specs.Layout.{VolumeLayout}
use Rattle.fs_reads.specs.Denied.{IsClosedStatus}

-- this path selects these files, past these closed directories; without a version the highest counts, and `meaning` is the selection of only a folder
abbrev pub AreOfPath : List (List ℕ) → VolumeLayout → Alone → List ℕ → List ℕ → List Found → Type 0
AreOfPath I L meaning closed path found = (says : Said) × Says path says × AreNamedBy I L closed says (highest meaning) found

-- no part of the path names a directory: it has no `[` and no `/`
abbrev pub names_no_directory : List ℕ → Bool
names_no_directory path = not (list_any (λ byte. byte == 91) path) && not (list_any (λ byte. byte == 47) path)

-- files of a path that names no directory are searched in all directories
abbrev pub searched : List ℕ → Folder → Bool → Folder
searched path folder says_files = record { steps = folder.steps; below = folder.below || (says_files && names_no_directory path) }

-- this path, which names no file by its ID, finds these lines, past these closed directories; all versions if it specifies none
abbrev pub AreFoundBy : List (List ℕ) → VolumeLayout → List ℕ → List ℕ → FoundLines → Type 0
AreFoundBy I L closed path found = (folder : Folder) × (files : Option Files) × Says path (Within folder files)
    × AreMeant I L closed (searched path folder (is_some files)) found.directories.items × AreFound I L files versions.Every 0 found.directories.items found.lines.items

-- the master directory and all below it
abbrev pub everywhere : Folder
everywhere = record { steps = []; below = true }

-- the files that a path selects, or the files in a folder if it has only a folder, come after the others, past the closed directories that are met
abbrev pub AddsFiles : List (List ℕ) → VolumeLayout → List ℕ → List ℕ → List Met → List Found → List Found → Type 0
AddsFiles I L closed path met old new =
    (found : List Found) × (new ≡ old ++ found) × ((shut : List ℕ) → CountAsClosed closed met shut → AreOfPath I L alone.Files shut path found)

-- a path selects entries of one directory with one name and version, past the closed directories that are met
abbrev pub NamesTwins : List (List ℕ) → VolumeLayout → List ℕ → List ℕ → Type 0
NamesTwins I L closed path =
    (met : List Met) × ((found : List Found) × HaveTwins found × ((shut : List ℕ) → CountAsClosed closed met shut → AreOfPath I L alone.Files shut path found))

-- The files that a path selects come after the others, and the status depends on whether a closed directory was met. Or the path selects twins and is
-- refused; or it selects none, and the status states why.
abbrev pub AddsNamed : List (List ℕ) → VolumeLayout → Option Uic → List ℕ → List ℕ → List Found → List Found → Status → Type 0
AddsNamed I L user closed path old new s =
    ((met : List Met) × AddsFiles I L closed path met old new × IsClosedStatus user met s)
    ⊎ ((new ≡ old) × NamesTwins I L closed path × (s ≡ Refused))
    ⊎ ((new ≡ old) × ((why : PathFault) × (why ≢ NoMemory) × IsPathFault I L path (highest alone.Files) why × HasPathStatus why s))
