-- When cp of another volume's files is refused: why, for which file, and what was copied before.
use Rattle.std.specs.Prelude.{◌≡◌, ◌⊎◌, ℕ, true, List, [], ◌∷◌, length, Option, Some, None, if◌then◌else◌}
use Rattle.std.specs.Borrow.{Bor}
use Rattle.std.specs.List.{Contains}
use Rattle.std.specs.String.{string_bytes}
use Rattle.ods_base.specs.Name.{RadName}
use Rattle.ods_files.specs.Body.{Body, HasBody, bytes_in}
use Rattle.ods_files.specs.declared.form.Form.TheVariants.{Raw}
use Rattle.ods_space.specs.Layout.{VolumeLayout}
use Rattle.ods_request.specs.declared.refusals.Refusal.TheVariants as refusal
use Rattle.ods_filing.specs.Filed.{Filed}
use Rattle.ods_shell.specs.Named.{highest}
use Rattle.ods_shell.specs.Passed.{is_directory}
use Rattle.ods_shell.specs.Twins.{HaveTwins}
use Rattle.ods_shell.specs.declared.alone.Alone.TheVariants as alone
use Rattle.ods_shell.specs.declared.facts.Facts.{Facts}
use Rattle.ods_shell.specs.declared.found.Found.{Found}
use Rattle.ods_upkeep.specs.Copied.{IsCopyable, IsUncopyable, IsUnread}
use Rattle.ods_upkeep.specs.CopiedFrom.{AreFilesFrom, are_passed_over, IsCopiedOver, placing_of, stamp_for, target_for}
use Rattle.ods_upkeep.specs.Ready.{MayHaveGrown}
use Rattle.ods_upkeep.specs.Refused.{AreNoSources, HasPath, IsNoSource}
use Rattle.ods_upkeep.specs.Sources.{AreOfPath, AreSources}
use Rattle.ods_upkeep.specs.Target.{IsNoTarget, IsTarget}
use Rattle.ods_upkeep.specs.Uncopied.{IsCopyUnmade, IsFirstUncopyable, MayAllBeCopied}
use Rattle.ods_upkeep.specs.declared.asked.CopyFrom.{CopyFrom}
use Rattle.ods_upkeep.specs.declared.failure.Failure.{Failure}
use Rattle.ods_upkeep.specs.declared.failure.Why.{Why}
use Rattle.ods_upkeep.specs.declared.failure.Why.TheVariants.{IsDirectory, Request}
use Rattle.ods_upkeep.specs.declared.target.Target.{Target}

-- Why a file of the other volume is not copied when its turn comes: it may not be, or its bytes are not read, and nothing was done; or no copy is made.
pub data IsNotCopiedOver (I : List (List ℕ)) (L : VolumeLayout) (how : CopyFrom) (to : Target) (stamp : List ℕ) (found : Found) (old new : Filed) : Why → Type 0 where
  uncopyable : (why : Why) → IsUncopyable how.reader to found why → new ≡ old → IsNotCopiedOver I L how to stamp found old new why
  unread : (why : Why) (facts : Facts) (name : RadName) → IsCopyable how.reader to found facts name → IsUnread I L facts.file.number why → new ≡ old → IsNotCopiedOver I L how to stamp found old new why
  unmade : (why : Why) (facts : Facts) (name : RadName) (body : Body) (bytes : List ℕ) → IsCopyable how.reader to found facts name → HasBody I L facts.file.number body → bytes_in Raw body ≡ Some bytes
      → IsCopyUnmade (placing_of how facts) (target_for to found facts how.next) name (stamp_for facts stamp) facts bytes old new why → IsNotCopiedOver I L how to stamp found old new why

-- These are copied, in order, up to one that is not.
abbrev pub StopsCopyingOver : List (List ℕ) → VolumeLayout → CopyFrom → Target → List ℕ → List Found → Filed → Filed → Failure → Type 0
StopsCopyingOver I L how to stamp [] old new failure = ⊥
StopsCopyingOver I L how to stamp (f ∷ found) old new failure =
    (HasPath failure (string_bytes f.path) × IsNotCopiedOver I L how to stamp f old new failure.why)
    ⊎ ((mid : Filed) × IsCopiedOver I L how to stamp f old mid × StopsCopyingOver I L how to stamp found mid new failure)

-- why not all of these are copied: one may not be, and nothing was done; or one is not, and INDEXF.SYS may have grown for them
abbrev pub AreNotCopiedOver : List (List ℕ) → VolumeLayout → CopyFrom → Target → List ℕ → List Found → Filed → Filed → Failure → Type 0
AreNotCopiedOver I L how to stamp found old new failure =
    ((new ≡ old) × IsFirstUncopyable how.reader to found failure)
    ⊎ (MayAllBeCopied how.reader to found × ((ready : Filed) × MayHaveGrown (length found) old ready × StopsCopyingOver I L how to stamp found ready new failure))

-- why a file that is passed over is not copied: a directory is not a file to copy, and otherwise it is one of the other volume's own files
abbrev pub passed_why : Option Facts → Why
passed_why None = Request refusal.Reserved
passed_why (Some facts) = if is_directory facts.kind then IsDirectory else Request refusal.Reserved

-- each of these is passed over, as the failure states for the first
abbrev pub AreAllPassed : List Found → Failure → Type 0
AreAllPassed all failure =
    (first : Found) × ((rest : List Found) × (all ≡ first ∷ rest) × (are_passed_over all ≡ true) × (failure.why ≡ passed_why first.facts) × HasPath failure (string_bytes first.path))

-- why a path is refused by the check for twins: it finds two entries of one name, or it selects nothing
abbrev pub IsTwinned : List (List ℕ) → VolumeLayout → List ℕ → Why → Type 0
IsTwinned I L path why =
    ((why ≡ Request refusal.NameTaken) × ((found : List Found) × AreOfPath I L (highest alone.Files) path found × HaveTwins found)) ⊎ IsNoSource I L (highest alone.Files) path why

-- the same for one of these paths, as the failure states
abbrev pub HasTwinned : List (List ℕ) → VolumeLayout → List (Bor (List ℕ)) → Failure → Type 0
HasTwinned I L paths failure = (path : Bor (List ℕ)) × Contains paths path × IsTwinned I L path.now failure.why × HasPath failure path.now

-- why these paths find no files on the other volume: they find nothing there, or two entries of one name, or all that they find is passed over
abbrev pub AreNoFilesFrom : List (List ℕ) → VolumeLayout → List (Bor (List ℕ)) → Failure → Type 0
AreNoFilesFrom I L paths failure =
    AreNoSources I L (highest alone.Files) paths failure ⊎ (HasTwinned I L paths failure
    ⊎ ((all : List Found) × AreSources I L (highest alone.Files) paths all × AreAllPassed all failure))

-- Why not all files that these paths find on the other volume are copied, and what was done before: they find no files there, or there is no target,
-- and nothing was done; or not all of the files are copied.
abbrev pub IsNotCopiedFrom : List (List ℕ) → VolumeLayout → CopyFrom → List ℕ → List (Bor (List ℕ)) → List ℕ → Filed → Filed → Failure → Type 0
IsNotCopiedFrom I L how stamp paths to old new failure =
    ((new ≡ old) × AreNoFilesFrom I L paths failure)
    ⊎ ((files : List Found) × AreFilesFrom I L paths files
    × (((new ≡ old) × IsNoTarget old.image old.layout (length files) to failure.why × HasPath failure to)
    ⊎ ((target : Target) × IsTarget old.image old.layout (length files) to target × AreNotCopiedOver I L how target stamp files old new failure)))
