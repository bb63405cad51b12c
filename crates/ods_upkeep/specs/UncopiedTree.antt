-- When cp -r of another volume's directory is refused: why, and what was done before.
use Rattle.std.specs.Prelude.{◌≡◌, ◌≢◌, ◌⊎◌, ℕ, true, List, [], ◌∷◌, ◌++◌, drop, Option, Some, None}
use Rattle.ods_base.specs.Name.{RadName, directory_type}
use Rattle.ods_base.specs.declared.file_id.FileId.{FileId}
use Rattle.ods_base.specs.declared.file_id.Uic.{Uic}
use Rattle.ods_base.specs.declared.name.Pick.TheVariants.{Highest}
use Rattle.ods_space.specs.Layout.{VolumeLayout}
use Rattle.ods_paths.specs.Bad.{IsBad}
use Rattle.ods_paths.specs.declared.bad.BadPath.{BadPath}
use Rattle.ods_paths.specs.Paths.{File, Folder, Said, Says, Within}
use Rattle.ods_request.specs.declared.refusals.Refusal.TheVariants as refusal
use Rattle.ods_filing.specs.Filed.{Filed}
use Rattle.ods_shell.specs.Ways.{AreMeant}
use Rattle.ods_shell.specs.declared.facts.Facts.{Facts}
use Rattle.ods_shell.specs.declared.folders.Directory.{Directory}
use Rattle.ods_shell.specs.declared.found.Found.{Found}
use Rattle.ods_shell.specs.declared.path_fault.PathFault.TheVariants as fault
use Rattle.ods_upkeep.specs.CopiedTree.{AreDirectoriesCopied, AreFilesIn, IsArrived, IsDirectoryBelow, IsDirectoryCopied, IsKnownOf, IsPlaceBelow, IsTree, IsWayTo, date_of, depth_of, target_at}
use Rattle.ods_upkeep.specs.Given.{StopsGivingTheirs}
use Rattle.ods_upkeep.specs.Hidden.{HidesEntries}
use Rattle.ods_upkeep.specs.Looked.{IsSeen, IsUnseen}
use Rattle.ods_upkeep.specs.Refused.{HasPath, IsOutOfMemory, no_memory}
use Rattle.ods_upkeep.specs.Target.{IsNoTarget, IsTarget}
use Rattle.ods_upkeep.specs.UncopiedFrom.{AreNotCopiedOver}
use Rattle.ods_upkeep.specs.Unmade.{IsUnmade}
use Rattle.ods_upkeep.specs.declared.asked.CopyFrom.{CopyFrom}
use Rattle.ods_upkeep.specs.declared.giving.Access.{Access}
use Rattle.ods_upkeep.specs.declared.failure.Failure.{Failure}
use Rattle.ods_upkeep.specs.declared.failure.Why.{Why}
use Rattle.ods_upkeep.specs.declared.failure.Why.TheVariants.{Hidden, Path, Request}
use Rattle.ods_upkeep.specs.declared.target.Target.{Target}

-- why only directories are no tree: none of them exists, or there is no memory to determine it
abbrev pub AreNoneBelow : List (List ℕ) → VolumeLayout → Folder → Why → Type 0
AreNoneBelow I L folder why = ((why ≡ Path fault.Nothing) × AreMeant I L [] (record folder { below = true }) []) ⊎ (why ≡ no_memory)

-- why the selection of a path is no tree: it has files; or no directory of it exists
abbrev pub IsNoTreeSaid : List (List ℕ) → VolumeLayout → Said → Why → Type 0
IsNoTreeSaid I L (File file) why = why ≡ Request refusal.NotADirectory
IsNoTreeSaid I L (Within folder None) why = AreNoneBelow I L folder why
IsNoTreeSaid I L (Within folder (Some files)) why = why ≡ Request refusal.NotADirectory

-- why a path is no tree: it is not a valid path, or its selection is none
abbrev pub IsNoTree : List (List ℕ) → VolumeLayout → List ℕ → Why → Type 0
IsNoTree I L path why = ((bad : BadPath) × (why ≡ Path (fault.Bad bad)) × IsBad path bad) ⊎ ((says : Said) × Says path says × IsNoTreeSaid I L says why)

-- why a found directory takes no files: it hides entries, or there is no memory to determine whether it does
abbrev pub IsShut : Filed → FileId → Why → Type 0
IsShut f file why = ((why ≡ Hidden) × HidesEntries f.image f.layout file.number) ⊎ (why ≡ no_memory)

-- why there is no directory of this name in this one, and what was done: it is found, and takes no files; or it is not found, and not created
abbrev pub IsNoDirectoryBelow : List ℕ → FileId → RadName → Filed → Filed → Why → Type 0
IsNoDirectoryBelow stamp dir name old new why =
    ((file : FileId) × ((version : ℕ) × IsSeen old dir name Highest file version new × IsShut new file why))
    ⊎ ((seen : Filed) × IsUnseen old dir name Highest seen × IsUnmade None 0 stamp dir name seen new why)

-- why these names reach no directory from this one, and what was done
abbrev pub IsNoPlaceBelow : List ℕ → FileId → List RadName → Filed → Filed → Why → Type 0
IsNoPlaceBelow stamp dir [] old new why = ⊥
IsNoPlaceBelow stamp dir (name ∷ names) old new why =
    IsNoDirectoryBelow stamp dir name old new why ⊎ ((next : FileId) × ((mid : Filed) × IsDirectoryBelow stamp dir name old next mid × IsNoPlaceBelow stamp next names mid new why))

-- why no directory of this name is reached, and what was done: there is none; or it is not found, and its name has another type than DIR
abbrev pub IsNotReachedBelow : List ℕ → FileId → RadName → Filed → Filed → Why → Type 0
IsNotReachedBelow stamp dir name old new why =
    IsNoDirectoryBelow stamp dir name old new why ⊎ ((why ≡ Request refusal.NotADirectory) × (name.ext ≢ directory_type) × IsUnseen old dir name Highest new)

-- why these names reach no directory from this one, the last at this date, and what was done
abbrev pub IsNoWayTo : List ℕ → List ℕ → FileId → List RadName → Filed → Filed → Why → Type 0
IsNoWayTo run date dir names old new why =
    (before : List RadName) × ((last : RadName) × (names ≡ before ++ last ∷ []) × (IsNoPlaceBelow run dir before old new why
    ⊎ ((up : FileId) × ((mid : Filed) × IsPlaceBelow run dir before old up mid × IsNotReachedBelow date up last mid new why))))

-- Why there is no directory for directory n of the other volume, and what was done: these names reach none; or they do, and there is no memory for what
-- is to be given to it.
abbrev pub IsNotArrived : List (List ℕ) → VolumeLayout → List ℕ → List ℕ → ℕ → FileId → List RadName → Filed → Filed → Failure → Type 0
IsNotArrived I L stamp path n dir names old new failure =
    (facts : Option Facts) × IsKnownOf I L n facts × ((IsNoWayTo stamp (date_of facts stamp) dir names old new failure.why × HasPath failure path)
    ⊎ ((owner : Option Uic) × ((place : FileId) × IsWayTo stamp (date_of facts stamp) dir names owner old place new × IsOutOfMemory failure)))

-- Why a directory of the other volume is not copied, and what was done: there is no directory for it; or reading its files runs out of memory; or not
-- all of them are copied.
pub data IsDirectoryUncopied (I : List (List ℕ)) (L : VolumeLayout) (how : CopyFrom) (stamp path : List ℕ) (dir : FileId) (depth : ℕ) (directory : Directory) (old new : Filed) (failure : Failure) : Type 0 where
  unplaced : IsNotArrived I L stamp path directory.number dir (drop depth directory.names.items) old new failure → IsDirectoryUncopied I L how stamp path dir depth directory old new failure
  unread : (place : FileId) (due : List Access) → IsArrived I L how stamp path directory.number dir (drop depth directory.names.items) due old place new → IsOutOfMemory failure
      → IsDirectoryUncopied I L how stamp path dir depth directory old new failure
  uncopied : (place : FileId) (due : List Access) (mid : Filed) (files : List Found) → IsArrived I L how stamp path directory.number dir (drop depth directory.names.items) due old place mid → AreFilesIn I L directory files
      → AreNotCopiedOver I L how (target_at place) stamp files mid new failure → IsDirectoryUncopied I L how stamp path dir depth directory old new failure

-- These directories are copied, in order, up to one that is not.
abbrev pub StopsCopyingTree : List (List ℕ) → VolumeLayout → CopyFrom → List ℕ → List ℕ → FileId → ℕ → List Directory → Filed → Filed → Failure → Type 0
StopsCopyingTree I L how stamp path dir depth [] old new failure = ⊥
StopsCopyingTree I L how stamp path dir depth (d ∷ directories) old new failure =
    IsDirectoryUncopied I L how stamp path dir depth d old new failure
    ⊎ ((due : List Access) × ((mid : Filed) × IsDirectoryCopied I L how stamp path dir depth d due old mid × StopsCopyingTree I L how stamp path dir depth directories mid new failure))

-- Why not all of these directories are copied and receive theirs: one of them is not copied; or one does not receive its protection.
abbrev pub IsUncopiedBelow : List (List ℕ) → VolumeLayout → CopyFrom → List ℕ → List ℕ → FileId → ℕ → List Directory → Filed → Filed → Failure → Type 0
IsUncopiedBelow I L how stamp path dir depth directories old new failure =
    StopsCopyingTree I L how stamp path dir depth directories old new failure
    ⊎ ((due : List Access) × ((filled : Filed) × AreDirectoriesCopied I L how stamp path dir depth directories due old filled × StopsGivingTheirs due filled new failure))

-- Why a tree is not copied, and what was done before: the path selects none, or there is no target, and nothing was done; or one of the directories
-- is not copied, or does not receive its protection.
abbrev pub IsTreeUncopied : List (List ℕ) → VolumeLayout → CopyFrom → List ℕ → List ℕ → List ℕ → Filed → Filed → Failure → Type 0
IsTreeUncopied I L how stamp path to old new failure =
    ((new ≡ old) × IsNoTree I L path failure.why × HasPath failure path)
    ⊎ ((tree : List Directory) × IsTree I L path tree
    × (((new ≡ old) × IsNoTarget old.image old.layout 2 to failure.why × HasPath failure to)
    ⊎ ((target : Target) × IsTarget old.image old.layout 2 to target × IsUncopiedBelow I L how stamp path target.directory (depth_of tree) tree old new failure)))
