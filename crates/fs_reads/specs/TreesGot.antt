-- When the files in a directory and below it are extracted, and into which folders of the host.
use Rattle.std.specs.Prelude.{◌≡◌, ◌⊎◌, ◌++◌, ℕ, true, false, if◌then◌else◌, List, [], ◌∷◌, Option, Some, None, codes, vec_len}
use Rattle.std.specs.Borrow.{Bor}
use Rattle.std.specs.Fmt.{decimal}
use Rattle.std.specs.List.{All}
use Rattle.ods_base.specs.Name.{RadName}
use Rattle.ods_base.specs.declared.file_id.Uic.{Uic}
use Rattle.ods_base.specs.declared.listed.Listed.{Listed}
use Rattle.ods_paths.specs.Paths.{Folder, Says, Within}
use Rattle.ods_space.specs.Layout.{VolumeLayout}
use Rattle.ods_shell.specs.Found.{AreLinesOf}
use Rattle.ods_shell.specs.HostNames.{small_text}
use Rattle.ods_shell.specs.Named.{IsEntryOf}
use Rattle.ods_shell.specs.Passed.{is_passed_over}
use Rattle.ods_shell.specs.Ways.{AreMeant}
use Rattle.ods_shell.specs.declared.folders.Directory.{Directory}
use Rattle.ods_shell.specs.declared.form.Remark.{Remark}
use Rattle.ods_shell.specs.declared.found.Found.{Found}
use Rattle.fs_reads.specs.Gets.{IsGettable}
use Rattle.fs_reads.specs.Trees.{folder_text, name_below}

-- The files of these entries of a directory, in their order, except files that are passed over.
abbrev pub AreFilesOf : List (List ℕ) → VolumeLayout → Directory → List Listed → List Found → Type 0
AreFilesOf I L directory [] files = files ≡ []
AreFilesOf I L directory (e ∷ entries) files =
    (found : Found) × (rest : List Found) × IsEntryOf I L directory e found × (files ≡ (if is_passed_over found.facts then rest else found ∷ rest)) × AreFilesOf I L directory entries rest

-- the files of a directory, except files that are passed over
abbrev pub AreFilesIn : List (List ℕ) → VolumeLayout → Directory → List Found → Type 0
AreFilesIn I L directory files = (entries : List Listed) × AreLinesOf I L directory.number entries × AreFilesOf I L directory entries files

-- each of them is extracted
abbrev pub IsDirectoryGot : List (List ℕ) → VolumeLayout → Option Uic → (ℕ → List ℕ → Option Remark → Type 0) → Directory → Type 0
IsDirectoryGot I L user Gives directory = (files : List Found) × AreFilesIn I L directory files × All (IsGettable user Gives) files

-- The path specifies only directories. This is their folder, without the directories below them.
abbrev pub IsSaidAlone : List ℕ → Folder → Type 0
IsSaidAlone path folder = (said : Folder) × Says path (Within said None) × (folder ≡ record said { below = false })

-- The files in the directory that the path specifies, and below it, are extracted; none of these directories is closed to the user.
abbrev pub IsTreeGot : List (List ℕ) → VolumeLayout → Option Uic → (ℕ → List ℕ → Option Remark → Type 0) → List ℕ → Type 0
IsTreeGot I L user Gives path =
    (said : Folder) × Says path (Within said None)
    × ((directories : List Directory) × AreMeant I L [] (record said { below = true }) directories × All (IsDirectoryGot I L user Gives) directories)

-- how many names reach the one directory that the path selects; 0 if it is closed
abbrev pub IsDepthOf : List Directory → ℕ → Type 0
IsDepthOf [] depth = depth ≡ 0
IsDepthOf (one ∷ []) depth = depth ≡ vec_len one.names
IsDepthOf (one ∷ other ∷ more) depth = ⊥

-- the specified folder of the host, or the working folder
abbrev pub target_folder : Option (Bor (List ℕ)) → List ℕ
target_folder None = codes "."
target_folder (Some folder) = folder.now

-- The host folder of a directory that these names reach from the extracted one: below the folder of that directory, in small letters.
abbrev pub host_folder : List ℕ → List RadName → List ℕ
host_folder root [] = root
host_folder root (name ∷ names) = name_below root (small_text (folder_text (name ∷ names)))

-- The folder of the host for a directory: the one that is said; or, if another directory has it, that name with the number of the directory's file.
abbrev pub IsOwnFolder : List ℕ → ℕ → List ℕ → Type 0
IsOwnFolder said number folder = (folder ≡ said) ⊎ (folder ≡ said ++ (codes " #" ++ decimal number))
