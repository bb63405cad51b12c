-- Why rmdir does not remove a directory, and the result then.
use Rattle.std.specs.Prelude.{◌≡◌, ◌≢◌, ◌⊎◌, ◌<◌, ◌≤◌, ℕ, false, List, [], ◌∷◌, ◌++◌, Some, None}
use Rattle.std.specs.Borrow.{Bor}
use Rattle.std.specs.List.{All}
use Rattle.std.specs.String.{string_bytes}
use Rattle.ods_base.specs.declared.listed.Listed.{Listed}
use Rattle.ods_space.specs.Layout.{VolumeLayout}
use Rattle.ods_mount.specs.Faults.{IsDirectoryFile}
use Rattle.ods_request.specs.declared.refusals.Refusal.TheVariants as refusal
use Rattle.ods_paths.specs.Paths.{Folder}
use Rattle.ods_paths.specs.declared.versions.Versions.TheVariants.{Highest}
use Rattle.ods_filing.specs.Filed.{Filed}
use Rattle.ods_shell.specs.declared.facts.Facts.{Facts}
use Rattle.ods_shell.specs.declared.facts.Kind.TheVariants.{Directory}
use Rattle.ods_shell.specs.declared.found.Found.{Found}
use Rattle.ods_shell.specs.declared.path_fault.PathFault.TheVariants as fault
use Rattle.ods_shell.specs.Found.{AreLinesOf}
use Rattle.ods_shell.specs.Named.{AreNamed}
use Rattle.ods_upkeep.specs.declared.failure.Failure.{Failure}
use Rattle.ods_upkeep.specs.declared.failure.Why.{Why}
use Rattle.ods_upkeep.specs.declared.failure.Why.TheVariants.{Hidden, Path, Request}
use Rattle.ods_upkeep.specs.Counted.{AreCounts}
use Rattle.ods_upkeep.specs.Emptied.{IsEmptied, IsEmptyDirectory, IsSought}
use Rattle.ods_upkeep.specs.Hidden.{HidesEntries}
use Rattle.ods_upkeep.specs.Made.{directories_named}
use Rattle.ods_upkeep.specs.Meant.{Means}
use Rattle.ods_upkeep.specs.Refused.{HasPath, no_memory}
use Rattle.ods_upkeep.specs.Removed.{StopsGoing}
use Rattle.ods_upkeep.specs.Unmeant.{MeansNone}

-- why a directory above the volume's own files may not be deleted: it has entries; it has none, and hides some; or there is no memory to determine it
abbrev pub HasSome : List (List ℕ) → VolumeLayout → ℕ → Why → Type 0
HasSome I L n why =
    ((why ≡ Request refusal.NotEmpty) × ((lines : List Listed) × AreLinesOf I L n lines × (lines ≢ [])))
    ⊎ (((why ≡ Hidden) × AreLinesOf I L n [] × HidesEntries I L n) ⊎ (why ≡ no_memory))

-- Why a file is not an empty directory that may be deleted. The first of these that holds is reported: it is no directory, it is one of the volume's
-- own files, 1 to 5, it has entries.
abbrev pub IsNoEmptyFile : List (List ℕ) → VolumeLayout → Facts → Why → Type 0
IsNoEmptyFile I L facts why =
    ((why ≡ Request refusal.NotADirectory) × ((facts.kind ≢ Directory) ⊎ (¬ IsDirectoryFile I L facts.file.number)))
    ⊎ ((facts.kind ≡ Directory) × IsDirectoryFile I L facts.file.number
    × (((why ≡ Request refusal.Reserved) × (facts.file.number ≤ 5)) ⊎ ((5 < facts.file.number) × HasSome I L facts.file.number why)))

-- why an entry names no empty directory: it names no file, or one that is not an empty directory
abbrev pub IsNotEmpty : List (List ℕ) → VolumeLayout → Found → Why → Type 0
IsNotEmpty I L found why = ((found.facts ≡ None) × (why ≡ Path fault.NoSuchFile)) ⊎ ((facts : Facts) × (found.facts ≡ Some facts) × IsNoEmptyFile I L facts why)

-- the first of these that is not an empty directory, which the failure reports
abbrev pub IsOneNotEmpty : List (List ℕ) → VolumeLayout → List Found → Failure → Type 0
IsOneNotEmpty I L all failure =
    (before : List Found) × (one : Found) × (rest : List Found) × (all ≡ before ++ one ∷ rest) × All (IsEmptyDirectory I L) before
    × IsNotEmpty I L one failure.why × HasPath failure (string_bytes one.path)

-- why a path selects no existing directories: it selects none, they do not exist, or there is no memory to find them
abbrev pub IsNotSought : List (List ℕ) → VolumeLayout → List ℕ → Why → Type 0
IsNotSought I L path why = MeansNone path why
    ⊎ ((up : Folder) × ((name : List ℕ) × Means path up name × (((why ≡ Path fault.Nothing) × AreNamed I L [] up (directories_named name Highest) None []) ⊎ (why ≡ no_memory))))

-- Why not all directories of a path are deleted: there are none; or there is no memory to count names, or one is not empty, and nothing was done; or
-- a request is not done.
abbrev pub IsNotEmptied : List ℕ → Filed → Filed → Failure → Type 0
IsNotEmptied path old new failure =
    ((new ≡ old) × IsNotSought old.image old.layout path failure.why × HasPath failure path)
    ⊎ ((found : List Found) × IsSought old.image old.layout path found
    × (((new ≡ old) × (failure.why ≡ no_memory) × HasPath failure path)
    ⊎ (((new ≡ old) × IsOneNotEmpty old.image old.layout found failure)
    ⊎ (All (IsEmptyDirectory old.image old.layout) found × ((names : ℕ → ℕ) × AreCounts old.image old.layout names × StopsGoing false names found old new failure)))))

-- The directories of these paths were deleted, in order, up to one path for which not all are.
abbrev pub AreNotEmptied : List (Bor (List ℕ)) → Filed → Filed → Failure → Type 0
AreNotEmptied [] old new failure = ⊥
AreNotEmptied (path ∷ paths) old new failure = IsNotEmptied path.now old new failure ⊎ ((mid : Filed) × IsEmptied path.now old mid × AreNotEmptied paths mid new failure)
