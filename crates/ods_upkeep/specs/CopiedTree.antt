-- What cp -r does for files of another volume: the files in a directory there and below it are copied, each into the directory of this volume that the
-- same names reach from the target. Directories that do not exist are created, with the date and the protection of the directories there.
use Rattle.std.specs.Prelude.{◌≡◌, ◌⊎◌, ℕ, true, List, [], ◌∷◌, ◌++◌, drop, MatchBool, MatchOption, Option, Some, None, if◌then◌else◌, vec_len}
use Rattle.std.specs.String.{string_bytes}
use Rattle.ods_base.specs.Name.{RadName, directory_type}
use Rattle.ods_base.specs.declared.file_id.FileId.{FileId}
use Rattle.ods_base.specs.declared.file_id.Uic.{Uic}
use Rattle.ods_base.specs.declared.listed.Listed.{Listed}
use Rattle.ods_base.specs.declared.name.Pick.TheVariants.{Highest}
use Rattle.ods_space.specs.Files.{IsFile}
use Rattle.ods_space.specs.Layout.{VolumeLayout}
use Rattle.ods_paths.specs.Paths.{File, Said, Says, Within}
use Rattle.ods_request.specs.declared.answers.Answer.TheVariants.{Created}
use Rattle.ods_request.specs.declared.requests.Request.TheVariants.{Create, Enter}
use Rattle.ods_amend.specs.Access.{may_give}
use Rattle.ods_filing.specs.Filed.{Filed, IsDone, for_another}
use Rattle.ods_filing.specs.Led.{IsObeyed}
use Rattle.ods_shell.specs.Facts.{AreFacts}
use Rattle.ods_shell.specs.Found.{AreLinesOf}
use Rattle.ods_shell.specs.Named.{IsEntryOf}
use Rattle.ods_shell.specs.Passed.{is_passed_over}
use Rattle.ods_shell.specs.Ways.{AreMeant}
use Rattle.ods_shell.specs.declared.facts.Facts.{Facts}
use Rattle.ods_shell.specs.declared.folders.Directory.{Directory}
use Rattle.ods_shell.specs.declared.found.Found.{Found}
use Rattle.ods_upkeep.specs.CopiedFrom.{AreAllCopiedOver, owner_carried, stamp_for}
use Rattle.ods_upkeep.specs.Given.{GetTheirs}
use Rattle.ods_upkeep.specs.Hidden.{HidesEntries}
use Rattle.ods_upkeep.specs.Looked.{IsSeen, IsUnseen}
use Rattle.ods_upkeep.specs.Made.{IsOwner, blocks_for}
use Rattle.ods_upkeep.specs.Target.{IsTarget}
use Rattle.ods_upkeep.specs.declared.asked.CopyFrom.{CopyFrom}
use Rattle.ods_upkeep.specs.declared.giving.Access.{Access}
use Rattle.ods_upkeep.specs.declared.target.Target.{Target}

-- the selection of a path with directories only: these, with all below them
abbrev pub IsTreeSaid : List (List ℕ) → VolumeLayout → Said → List Directory → Type 0
IsTreeSaid I L (File file) tree = ⊥
IsTreeSaid I L (Within folder None) tree = AreMeant I L [] (record folder { below = true }) tree
IsTreeSaid I L (Within folder (Some files)) tree = ⊥

-- the directories of a path, with all below them
abbrev pub IsTree : List (List ℕ) → VolumeLayout → List ℕ → List Directory → Type 0
IsTree I L path tree = (says : Said) × Says path says × IsTreeSaid I L says tree

-- how many names reach the first of these
abbrev pub depth_of : List Directory → ℕ
depth_of [] = 0
depth_of (first ∷ rest) = vec_len first.names

-- the files of these entries of a directory, in their order, except files that are passed over
abbrev pub AreFilesAt : List (List ℕ) → VolumeLayout → Directory → List Listed → List Found → Type 0
AreFilesAt I L directory [] files = files ≡ []
AreFilesAt I L directory (e ∷ entries) files =
    (found : Found) × (rest : List Found) × IsEntryOf I L directory e found × (files ≡ (if is_passed_over found.facts then rest else found ∷ rest)) × AreFilesAt I L directory entries rest

-- the files of a directory that are copied
abbrev pub AreFilesIn : List (List ℕ) → VolumeLayout → Directory → List Found → Type 0
AreFilesIn I L directory files = (entries : List Listed) × AreLinesOf I L directory.number entries × AreFilesAt I L directory entries files

-- A directory of this name was made in this one, as mkdir makes it: its owner requested the new file, and then the user entered it under version 1.
abbrev pub IsMadeIn : List ℕ → FileId → RadName → Filed → FileId → Filed → Type 0
IsMadeIn stamp dir name old file new = (owner : Uic) × (IsOwner None old.user dir name owner
    × ((mid : Filed) × IsDone (for_another old owner) (Create name 1 (blocks_for 0) stamp) (Created file) mid × IsObeyed (for_another mid old.user) (Enter dir name (Some 1) file) new))

-- The directory of this name in this one is found: the user finds it under its highest version, and it hides no entries.
abbrev pub IsFoundBelow : FileId → RadName → Filed → FileId → Filed → Type 0
IsFoundBelow dir name old file new = (version : ℕ) × IsSeen old dir name Highest file version new × ¬ HidesEntries new.image new.layout file.number

-- it is not found, and was made
abbrev pub IsNewBelow : List ℕ → FileId → RadName → Filed → FileId → Filed → Type 0
IsNewBelow stamp dir name old file new = (seen : Filed) × IsUnseen old dir name Highest seen × IsMadeIn stamp dir name seen file new

-- the directory of this name in this one, which is found, or made
abbrev pub IsDirectoryBelow : List ℕ → FileId → RadName → Filed → FileId → Filed → Type 0
IsDirectoryBelow stamp dir name old file new = IsFoundBelow dir name old file new ⊎ IsNewBelow stamp dir name old file new

-- a directory was made under a name of the type DIR, for this owner
abbrev pub IsNamedIn : List ℕ → FileId → RadName → Option Uic → Filed → FileId → Filed → Type 0
IsNamedIn stamp dir name None old file new = ⊥
IsNamedIn stamp dir name (Some owner) old file new = (name.ext ≡ directory_type) × IsOwner None old.user dir name owner × IsMadeIn stamp dir name old file new

-- The directory of this name in this one is found; or it is not, and was made, for this owner.
abbrev pub IsReachedBelow : List ℕ → FileId → RadName → Option Uic → Filed → FileId → Filed → Type 0
IsReachedBelow stamp dir name None old file new = IsFoundBelow dir name old file new
IsReachedBelow stamp dir name (Some owner) old file new = (seen : Filed) × IsUnseen old dir name Highest seen × IsNamedIn stamp dir name (Some owner) seen file new

-- the directory that these names reach from this one
abbrev pub IsPlaceBelow : List ℕ → FileId → List RadName → Filed → FileId → Filed → Type 0
IsPlaceBelow stamp dir [] old place new = (place ≡ dir) × (new ≡ old)
IsPlaceBelow stamp dir (name ∷ names) old place new = (next : FileId) × ((mid : Filed) × IsDirectoryBelow stamp dir name old next mid × IsPlaceBelow stamp next names mid place new)

-- The directory that these names reach from this one, and its owner if it was made: the last of them at this date, and the others at the time of the
-- run.
abbrev pub IsWayTo : List ℕ → List ℕ → FileId → List RadName → Option Uic → Filed → FileId → Filed → Type 0
IsWayTo run date dir [] owner old place new = (owner ≡ None) × (place ≡ dir) × (new ≡ old)
IsWayTo run date dir (name ∷ names) owner old place new =
    (before : List RadName) × ((last : RadName) × (name ∷ names ≡ before ++ last ∷ [])
    × ((up : FileId) × ((mid : Filed) × IsPlaceBelow run dir before old up mid × IsReachedBelow date up last owner mid place new)))

-- what is known of the file with this number, if there is one
abbrev pub IsKnownOf : List (List ℕ) → VolumeLayout → ℕ → Option Facts → Type 0
IsKnownOf I L n facts = MatchOption facts (¬ IsFile I L n) (AreFacts I L n)

-- the date of a file of which this is known, or else the time of the run
abbrev pub date_of : Option Facts → List ℕ → List ℕ
date_of None stamp = stamp
date_of (Some facts) stamp = stamp_for facts stamp

-- this is to be given to this file: the protection of its original, and the owner if owners are kept and the user may give it
abbrev pub IsAccessTo : CopyFrom → Uic → List ℕ → Facts → FileId → Access → Type 0
IsAccessTo how user path facts file a =
    (a.file ≡ file) × (a.owner ≡ owner_carried how.owners user facts.owner) × (a.protection ≡ Some facts.protection) × (string_bytes a.path ≡ path)

-- What is to be given to a directory with this original: nothing if it was not made, or if the user may not give anything to a file of its owner.
abbrev pub IsDueTo : CopyFrom → Uic → List ℕ → Option Facts → Option Uic → FileId → List Access → Type 0
IsDueTo how user path None owner file due = due ≡ []
IsDueTo how user path (Some facts) None file due = due ≡ []
IsDueTo how user path (Some facts) (Some owner) file due = MatchBool (may_give user owner) ((a : Access) × IsAccessTo how user path facts file a × (due ≡ a ∷ [])) (due ≡ [])

-- The directory for directory n of the other volume, which these names reach from this one. If it is made, it has the date of that directory, and this
-- is to be given to it.
abbrev pub IsArrived : List (List ℕ) → VolumeLayout → CopyFrom → List ℕ → List ℕ → ℕ → FileId → List RadName → List Access → Filed → FileId → Filed → Type 0
IsArrived I L how stamp path n dir names due old place new =
    (facts : Option Facts) × ((owner : Option Uic) × IsKnownOf I L n facts × IsWayTo stamp (date_of facts stamp) dir names owner old place new
    × IsDueTo how new.user path facts owner place due)

-- a directory, in which each file keeps its name
abbrev pub target_at : FileId → Target
target_at directory = record { directory = directory; name = None; version = None }

-- The files of a directory of the other volume are copied into the directory that its names, after this number of them, reach from this one. This is to
-- be given to that directory.
abbrev pub IsDirectoryCopied : List (List ℕ) → VolumeLayout → CopyFrom → List ℕ → List ℕ → FileId → ℕ → Directory → List Access → Filed → Filed → Type 0
IsDirectoryCopied I L how stamp path dir depth directory due old new =
    (place : FileId) × ((mid : Filed) × ((files : List Found) × IsArrived I L how stamp path directory.number dir (drop depth directory.names.items) due old place mid
    × AreFilesIn I L directory files × AreAllCopiedOver I L how (target_at place) stamp files mid new))

-- These directories are copied, in order, and this is to be given to them.
abbrev pub AreDirectoriesCopied : List (List ℕ) → VolumeLayout → CopyFrom → List ℕ → List ℕ → FileId → ℕ → List Directory → List Access → Filed → Filed → Type 0
AreDirectoriesCopied I L how stamp path dir depth [] due old new = (due ≡ []) × (new ≡ old)
AreDirectoriesCopied I L how stamp path dir depth (d ∷ directories) due old new =
    (first : List Access) × ((rest : List Access) × ((mid : Filed) × (due ≡ first ++ rest) × IsDirectoryCopied I L how stamp path dir depth d first old mid
    × AreDirectoriesCopied I L how stamp path dir depth directories rest mid new))

-- The files in the directories of the path on the other volume, and below them, are copied to the directory of the other path and below it. After
-- the last of them each directory that was made receives its protection, and its owner if owners are kept.
abbrev pub IsTreeCopied : List (List ℕ) → VolumeLayout → CopyFrom → List ℕ → List ℕ → List ℕ → Filed → Filed → Type 0
IsTreeCopied I L how stamp path to old new =
    (tree : List Directory) × ((target : Target) × IsTree I L path tree × IsTarget old.image old.layout 2 to target
    × ((due : List Access) × ((filled : Filed) × AreDirectoriesCopied I L how stamp path target.directory (depth_of tree) tree due old filled × GetTheirs due filled new)))
