-- Why mkdir makes no directory, and the result then.
use Rattle.std.specs.Prelude.{◌≡◌, ◌⊎◌, ℕ, false, true, List, [], ◌∷◌, codes, Option, Some, None}
use Rattle.std.specs.Borrow.{Bor}
use Rattle.ods_base.specs.Name.{RadName}
use Rattle.ods_base.specs.declared.file_id.FileId.{FileId}
use Rattle.ods_base.specs.declared.file_id.Uic.{Uic}
use Rattle.ods_space.specs.Layout.{VolumeLayout}
use Rattle.ods_request.specs.declared.answers.Answer.TheVariants.{Created}
use Rattle.ods_request.specs.declared.refusals.Refusal.TheVariants as refusal
use Rattle.ods_request.specs.declared.requests.Request.TheVariants.{Create, Enter}
use Rattle.ods_paths.specs.Paths.{Folder}
use Rattle.ods_paths.specs.Patterns.{has_wildcard}
use Rattle.ods_paths.specs.declared.versions.Versions.TheVariants.{Every}
use Rattle.ods_filing.specs.Filed.{Filed, for_another, IsDone}
use Rattle.ods_shell.specs.declared.found.Found.{Found}
use Rattle.ods_shell.specs.Named.{AreNamed}
use Rattle.ods_upkeep.specs.declared.failure.Failure.{Failure}
use Rattle.ods_upkeep.specs.declared.failure.Why.{Why}
use Rattle.ods_upkeep.specs.declared.failure.Why.TheVariants.{DirectoryThere, Hidden, Request, Several}
use Rattle.ods_upkeep.specs.Hidden.{HidesEntries}
use Rattle.ods_upkeep.specs.Made.{IsMade, IsNewPlace, IsOwner, blocks_for, directories_named}
use Rattle.ods_upkeep.specs.Meant.{Means}
use Rattle.ods_upkeep.specs.Refused.{HasPath, IsNotDone, IsRefusedBy, no_memory}
use Rattle.ods_upkeep.specs.Target.{IsNoDirectory, IsNoName, IsTheDirectory}
use Rattle.ods_upkeep.specs.Unmeant.{MeansNone}

-- a directory of this name exists, in some version
abbrev pub IsThere : List (List ℕ) → VolumeLayout → Folder → List ℕ → Type 0
IsThere I L up name = (one : Found) × ((more : List Found) × AreNamed I L [] up (directories_named name Every) None (one ∷ more))

-- the name is that of the master directory in itself
abbrev pub IsMasters : FileId → List ℕ → Type 0
IsMasters dir name = (dir.number ≡ 4) × (name ≡ codes "000000")

-- Why a name in this directory is not new. The first of these that holds is reported: it is the name of the master directory, it exists, entries of
-- the directory are hidden. Or there is no memory to determine it.
abbrev pub IsNotNew : List (List ℕ) → VolumeLayout → Folder → List ℕ → FileId → Why → Type 0
IsNotNew I L up name dir why =
    ((why ≡ Request refusal.Reserved) × IsMasters dir name)
    ⊎ ((¬ IsMasters dir name) × (((why ≡ DirectoryThere) × IsThere I L up name)
    ⊎ (((why ≡ Hidden) × AreNamed I L [] up (directories_named name Every) None [] × HidesEntries I L dir.number) ⊎ (why ≡ no_memory))))

-- Why a name, or pattern, in a folder is not a new location. The first of these that holds is reported: it is a pattern, the folder is not one
-- directory, it is not a valid name, it is not new.
abbrev pub IsNoPlace : List (List ℕ) → VolumeLayout → Folder → List ℕ → Why → Type 0
IsNoPlace I L up name why =
    ((why ≡ Several) × (has_wildcard name ≡ true))
    ⊎ ((has_wildcard name ≡ false)
    × (IsNoDirectory I L up why ⊎ ((dir : FileId) × IsTheDirectory I L up dir × (IsNoName name (codes "DIR") why ⊎ IsNotNew I L up name dir why))))

-- why a path is not a new location: it selects no directory, or one that is not new
abbrev pub IsNoNewPlace : List (List ℕ) → VolumeLayout → List ℕ → Why → Type 0
IsNoNewPlace I L path why = MeansNone path why ⊎ ((up : Folder) × ((name : List ℕ) × Means path up name × IsNoPlace I L up name why))

-- Why a new directory is not made, and the result: its owner's Create is refused, and nothing was done; or the user's Enter is, and the file exists
-- without an entry.
abbrev pub IsUnmade : Option Uic → ℕ → List ℕ → FileId → RadName → Filed → Filed → Why → Type 0
IsUnmade said names stamp dir name old new why = (owner : Uic) × IsOwner said old.user dir name owner
    × (((new ≡ old) × IsRefusedBy (for_another old owner) (Create name 1 (blocks_for names) stamp) why)
    ⊎ ((file : FileId) × ((mid : Filed) × IsDone (for_another old owner) (Create name 1 (blocks_for names) stamp) (Created file) mid
    × (new ≡ for_another mid old.user) × IsNotDone (for_another mid old.user) (Enter dir name (Some 1) file) why)))

-- why the directory of a path is not made
abbrev pub IsNotMade : Option Uic → ℕ → List ℕ → List ℕ → Filed → Filed → Why → Type 0
IsNotMade said names stamp path old new why =
    ((new ≡ old) × IsNoNewPlace old.image old.layout path why)
    ⊎ ((dir : FileId) × ((name : RadName) × IsNewPlace old.image old.layout path dir name × IsUnmade said names stamp dir name old new why))

-- The directories of these paths were made, in order, up to one that is not, which the failure reports.
abbrev pub AreNotMade : Option Uic → ℕ → List ℕ → List (Bor (List ℕ)) → Filed → Filed → Failure → Type 0
AreNotMade said names stamp [] old new failure = ⊥
AreNotMade said names stamp (path ∷ paths) old new failure =
    (IsNotMade said names stamp path.now old new failure.why × HasPath failure path.now)
    ⊎ ((mid : Filed) × IsMade said names stamp path.now old mid × AreNotMade said names stamp paths mid new failure)
