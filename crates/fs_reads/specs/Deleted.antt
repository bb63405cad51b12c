-- The output of `find --deleted`.
use Rattle.std.specs.Prelude.{◌≡◌, ◌≤◌, ◌⊎◌, ℕ, Bool, true, false, if◌then◌else◌, List, [], ◌∷◌, ◌++◌, length, Option, Some, None}
use Rattle.std.specs.Borrow.{Bor}
use Rattle.ods_space.specs.Layout.{VolumeLayout}
use Rattle.ods_paths.specs.Paths.{Files, Folder, Says, Within}
use Rattle.ods_paths.specs.declared.versions.Versions.{Versions}
use Rattle.ods_paths.specs.declared.versions.Versions.TheVariants.{Exact, Highest, Lowest, Every}
use Rattle.ods_shell.specs.Deleted.{AreDeletions}
use Rattle.ods_shell.specs.Deletions.{deletion_lines, deletion_objects}
use Rattle.ods_shell.specs.declared.deleted.Deletion.{Deletion}
use Rattle.ods_shell.specs.declared.path_fault.PathFault.TheVariants as fault
use Rattle.ods_shell.specs.declared.status.Status.TheVariants as status
use Rattle.fs_reads.specs.declared.stop.Stop.{Stop}
use Rattle.fs_reads.specs.declared.stop.Stop.TheVariants as stop
use Rattle.fs_reads.specs.Ends.{StopsWith}
use Rattle.fs_reads.specs.Named.{names_no_directory}

-- the text for these deleted files: an object of this image each, or a line
abbrev pub deletions_text : Bool → List ℕ → Bool → List Deletion → List ℕ
deletions_text json image long all = if json then deletion_objects image all else deletion_lines long all

-- A version is the highest or the lowest only among others in its directory. A deleted file has no others.
abbrev pub counts_from_others : Option Versions → Bool
counts_from_others None = false
counts_from_others (Some (Exact version)) = false
counts_from_others (Some Highest) = true
counts_from_others (Some Lowest) = true
counts_from_others (Some Every) = false

-- the path specifies these files, and nothing that a deleted file does not have
pub record SaysDeleted (path : List ℕ) (files : Files) : Type 0 where
  pub alone : names_no_directory path ≡ true
  pub folder : Folder
  pub says : Says path (Within folder (Some files))
  pub own : counts_from_others files.versions ≡ false

-- this text shows exactly the deleted files that these files select
abbrev pub ShowsDeleted : List (List ℕ) → VolumeLayout → Bool → List ℕ → Bool → Option Files → List ℕ → Type 0
ShowsDeleted I L json image long files text = (all : List Deletion) × AreDeletions I L files all × (text ≡ deletions_text json image long all)

-- this text shows the deleted files that this path selects
abbrev pub ShowsPath : List (List ℕ) → VolumeLayout → Bool → List ℕ → Bool → List ℕ → List ℕ → Type 0
ShowsPath I L json image long path text = (files : Files) × SaysDeleted path files × ShowsDeleted I L json image long (Some files) text

-- the texts of these paths, in order
abbrev pub ShowsPaths : List (List ℕ) → VolumeLayout → Bool → List ℕ → Bool → List (Bor (List ℕ)) → List ℕ → Type 0
ShowsPaths I L json image long [] text = text ≡ []
ShowsPaths I L json image long (path ∷ paths) text = (one rest : List ℕ) × ShowsPath I L json image long path.now one × ShowsPaths I L json image long paths rest × (text ≡ one ++ rest)

-- the texts of the paths, or of all deleted files if there are no paths
abbrev pub ShowsAsked : List (List ℕ) → VolumeLayout → Bool → List ℕ → Bool → List (Bor (List ℕ)) → List ℕ → Type 0
ShowsAsked I L json image long [] text = ShowsDeleted I L json image long None text
ShowsAsked I L json image long (path ∷ paths) text = ShowsPaths I L json image long (path ∷ paths) text

-- a command ends because its words are wrong, or out of memory
abbrev pub EndsWords : Stop → Type 0
EndsWords why = StopsWith why status.Words ⊎ (why ≡ stop.NoMemory)

-- the path selects no deleted file
abbrev pub FindsNone : List (List ℕ) → VolumeLayout → List ℕ → Type 0
FindsNone I L path = (files : Files) × SaysDeleted path files × (all : List Deletion) × AreDeletions I L (Some files) all × (length all ≤ 0)

-- a command ends because there is no such file, or because the path is not valid for deleted files
abbrev pub EndsDeleted : List (List ℕ) → VolumeLayout → Bor (List ℕ) → Stop → Type 0
EndsDeleted I L path why = (FindsNone I L path.now × (why ≡ stop.Path path fault.Nothing)) ⊎ EndsWords why
