-- When files that paths select are extracted, and when one is refused.
use Rattle.std.specs.Prelude.{◌≡◌, ◌≢◌, ◌⊎◌, ◌↔◌, ◌≤◌, ◌==◌, ◌||◌, ℕ, Bool, List, [], ◌∷◌, ◌++◌, length, Option, Some, None, IsSome, codes}
use Rattle.std.specs.Borrow.{Bor}
use Rattle.std.specs.List.{All, Contains, ends_with}
use Rattle.std.specs.Option.{option_to_list}
use Rattle.ods_base.specs.declared.file_id.Uic.{Uic}
use Rattle.ods_shell.specs.declared.facts.Facts.{Facts}
use Rattle.ods_shell.specs.declared.form.FormFault.{FormFault}
use Rattle.ods_shell.specs.declared.form.FormFault.TheVariants.{NoMemory}
use Rattle.ods_shell.specs.declared.form.Remark.{Remark}
use Rattle.ods_shell.specs.declared.found.Found.{Found}
use Rattle.ods_shell.specs.declared.status.Status.{Status}
use Rattle.ods_shell.specs.declared.status.Status.TheVariants as status
use Rattle.ods_space.specs.Layout.{VolumeLayout}
use Rattle.fs_reads.specs.Denied.{AreClosedTo, IsUnread, MayRead}
use Rattle.fs_reads.specs.Named.{AddsNamed}
use Rattle.fs_reads.specs.declared.getting.Destination.{Destination}
use Rattle.fs_reads.specs.declared.getting.Destination.TheVariants as destination
use Rattle.fs_reads.specs.declared.reading.Unread.{Unread}
use Rattle.fs_reads.specs.declared.reading.Unread.TheVariants as unread

-- the user may read the file, and these bytes of the requested form are read from it
abbrev pub IsGettable : Option Uic → (ℕ → List ℕ → Option Remark → Type 0) → Found → Type 0
IsGettable user Gives found = (facts : Facts) × (found.facts ≡ Some facts) × MayRead user facts × ((bytes : List ℕ) × (said : Option Remark) × Gives facts.file.number bytes said)

-- nothing is read from the file: the entry names none, or this user may not read it, or it does not have the requested form
abbrev pub IsRefused : Option Uic → (ℕ → FormFault → Type 0) → Found → Type 0
IsRefused user Lacks found = (found.facts ≡ None)
    ⊎ ((facts : Facts) × (found.facts ≡ Some facts) × ((why : Unread) × (why ≢ unread.Form NoMemory) × IsUnread user facts (Lacks facts.file.number) why))

-- the status of a file: it is extracted, or refused
abbrev pub EndsFile : Option Uic → (ℕ → List ℕ → Option Remark → Type 0) → (ℕ → FormFault → Type 0) → Found → Status → Type 0
EndsFile user Gives Lacks found s = ((s ≡ status.Done) × IsGettable user Gives found) ⊎ ((s ≡ status.Refused) × IsRefused user Lacks found)

-- the path selects these files, no directory on the way is closed to the user, and each of the files is extracted
abbrev pub IsPathGot : List (List ℕ) → VolumeLayout → Option Uic → (ℕ → List ℕ → Option Remark → Type 0) → List ℕ → List ℕ → Type 0
IsPathGot I L user Gives closed path = (found : List Found) × AddsNamed I L user closed path [] found status.Done × All (IsGettable user Gives) found

-- the path selects files that are all among these, and no directory on the way is closed to the user
abbrev pub IsAmong : List (List ℕ) → VolumeLayout → Option Uic → List ℕ → List Found → List ℕ → Type 0
IsAmong I L user closed all path = (found : List Found) × AddsNamed I L user closed path [] found status.Done × All (Contains all) found

-- the files of each of these paths are extracted, past the same closed directories
abbrev pub AreGot : List (List ℕ) → VolumeLayout → Option Uic → (ℕ → List ℕ → Option Remark → Type 0) → List (Bor (List ℕ)) → Type 0
AreGot I L user Gives paths = (closed : List ℕ) × AreClosedTo I L user closed × All (λ path. IsPathGot I L user Gives closed path.now) paths

-- the status of a file that is written to the host, which may not accept it
abbrev pub EndsGet : Option Uic → (ℕ → List ℕ → Option Remark → Type 0) → (ℕ → FormFault → Type 0) → Found → Status → Type 0
EndsGet user Gives Lacks found s = EndsFile user Gives Lacks found s ⊎ (s ≡ status.Host)

-- The first list is all words, the second is the paths, and the last is the target, if there is one. If the target is given apart all words are
-- paths. Otherwise the last of two or more words is the target.
abbrev pub AreSaid : List (Bor (List ℕ)) → Option (Bor (List ℕ)) → List (Bor (List ℕ)) → Option (Bor (List ℕ)) → Type 0
AreSaid words (Some host) paths target = (paths ≡ words) × (target ≡ Some host)
AreSaid words None paths target = (paths ++ option_to_list target ≡ words) × (IsSome target ↔ (2 ≤ length words))

-- The destination for this number of paths: the working folder without a target, standard output for `-`, otherwise a folder of the host, or one
-- file, which takes one path.
abbrev pub GoesTo : ℕ → Option (Bor (List ℕ)) → Destination → Type 0
GoesTo paths None destination.Output = ⊥
GoesTo paths None (destination.Folder folder) = folder.now ≡ codes "."
GoesTo paths None (destination.File host) = ⊥
GoesTo paths (Some target) destination.Output = target.now ≡ codes "-"
GoesTo paths (Some target) (destination.Folder folder) = (folder ≡ target) × (target.now ≢ codes "-")
GoesTo paths (Some target) (destination.File host) = (host ≡ target) × (target.now ≢ codes "-") × (paths ≤ 1)

-- a path requests all versions
abbrev pub says_all_versions : List ℕ → Bool
says_all_versions path = ends_with (λ x y. x == y) path (codes ";*") || ends_with (λ x y. x == y) path (codes ":*")

-- the path of a file of this name in a folder of the host
abbrev pub path_within : List ℕ → List ℕ → List ℕ
path_within folder name = folder ++ 47 ∷ name
