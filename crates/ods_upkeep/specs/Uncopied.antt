-- When cp is refused: why, for which file, and what was copied before.
use Rattle.std.specs.Prelude.{◌≡◌, ◌⊎◌, ◌≤◌, ◌*◌, ◌^◌, ℕ, List, [], ◌∷◌, length, Option, Some}
use Rattle.std.specs.Borrow.{Bor}
use Rattle.std.specs.String.{string_bytes}
use Rattle.ods_base.specs.Name.{RadName}
use Rattle.ods_base.specs.declared.file_id.FileId.{FileId}
use Rattle.ods_base.specs.declared.file_id.Uic.{Uic}
use Rattle.ods_files.specs.Body.{Body, HasBody, bytes_in}
use Rattle.ods_files.specs.declared.form.Form.TheVariants.{Raw}
use Rattle.ods_request.specs.declared.refusals.Refusal.{Refusal}
use Rattle.ods_request.specs.declared.refusals.Refusal.TheVariants as refusal
use Rattle.ods_filing.specs.Amended.{IsWhyNotGiven}
use Rattle.ods_filing.specs.Filed.{Filed}
use Rattle.ods_shell.specs.declared.alone.Alone.TheVariants as alone
use Rattle.ods_shell.specs.Named.{highest}
use Rattle.ods_shell.specs.declared.facts.Facts.{Facts}
use Rattle.ods_shell.specs.declared.found.Found.{Found}
use Rattle.ods_upkeep.specs.Copied.{IsCopyable, IsCopied, IsUncopyable, IsUnread, true_for}
use Rattle.ods_upkeep.specs.Looked.{IsNextVersion}
use Rattle.ods_upkeep.specs.PutFor.{IsMadeFor}
use Rattle.ods_upkeep.specs.Ready.{MayHaveGrown}
use Rattle.ods_upkeep.specs.Refused.{AreNoSources, HasPath}
use Rattle.ods_upkeep.specs.Sources.{AreSources}
use Rattle.ods_upkeep.specs.Target.{IsNoTarget, IsTarget}
use Rattle.ods_upkeep.specs.Unfiled.{IsUnfiled}
use Rattle.ods_upkeep.specs.declared.asked.Placing.{Placing}
use Rattle.ods_upkeep.specs.declared.failure.Failure.{Failure}
use Rattle.ods_upkeep.specs.declared.failure.Why.{Why}
use Rattle.ods_upkeep.specs.declared.failure.Why.TheVariants.{Request}
use Rattle.ods_upkeep.specs.declared.target.Target.{Target}

-- as far as it can be determined before, this file may be copied for this reader
abbrev pub MayBeCopied : Option Uic → Target → Found → Type 0
MayBeCopied reader to f = (facts : Facts) × ((name : RadName) × IsCopyable reader to f facts name)

-- and so may all of these
abbrev pub MayAllBeCopied : Option Uic → Target → List Found → Type 0
MayAllBeCopied reader to [] = Unit {0}
MayAllBeCopied reader to (f ∷ found) = MayBeCopied reader to f × MayAllBeCopied reader to found

-- one of these may not, as the failure states; all before it may
abbrev pub IsFirstUncopyable : Option Uic → Target → List Found → Failure → Type 0
IsFirstUncopyable reader to [] failure = ⊥
IsFirstUncopyable reader to (f ∷ found) failure =
    (IsUncopyable reader to f failure.why × HasPath failure (string_bytes f.path)) ⊎ (MayBeCopied reader to f × IsFirstUncopyable reader to found failure)

-- Why no copy with these bytes is made of a file of which this is known: no volume has as many bytes as its blocks hold, and nothing was done; or the
-- copy is not made or entered; or it is, and does not receive the protection.
pub data IsCopyUnmade (placing : Placing) (to : Target) (name : RadName) (stamp : List ℕ) (facts : Facts) (bytes : List ℕ) (old new : Filed) : Why → Type 0 where
  too_large : 512 * 2 ^ 20 ≤ 512 * facts.blocks → new ≡ old → IsCopyUnmade placing to name stamp facts bytes old new (Request refusal.VolumeFull)
  unfiled : (why : Why) (version : ℕ) (mid : Filed) → IsNextVersion old to.directory name to.version version mid
      → IsUnfiled placing old.user to.directory to.version (record { name = name; version = version; stamp = stamp }) (true_for facts.attributes facts.blocks) bytes mid new why
      → IsCopyUnmade placing to name stamp facts bytes old new why
  not_given : (reason : Refusal) (version : ℕ) (mid : Filed) (file : FileId) → IsNextVersion old to.directory name to.version version mid
      → IsMadeFor placing old.user to.directory to.version (record { name = name; version = version; stamp = stamp }) (true_for facts.attributes facts.blocks) bytes file mid new → IsWhyNotGiven new file reason
      → IsCopyUnmade placing to name stamp facts bytes old new (Request reason)

-- Why a file is not copied when its turn comes: it may not be, or its bytes are not read, and nothing was done; or no copy is made.
pub data IsNotCopied (placing : Placing) (to : Target) (stamp : List ℕ) (found : Found) (old new : Filed) : Why → Type 0 where
  uncopyable : (why : Why) → IsUncopyable (Some old.user) to found why → new ≡ old → IsNotCopied placing to stamp found old new why
  unread : (why : Why) (facts : Facts) (name : RadName) → IsCopyable (Some old.user) to found facts name → IsUnread old.image old.layout facts.file.number why → new ≡ old → IsNotCopied placing to stamp found old new why
  unmade : (why : Why) (facts : Facts) (name : RadName) (body : Body) (bytes : List ℕ) → IsCopyable (Some old.user) to found facts name → HasBody old.image old.layout facts.file.number body
      → bytes_in Raw body ≡ Some bytes → IsCopyUnmade placing to name stamp facts bytes old new why → IsNotCopied placing to stamp found old new why

-- These are copied, in order, up to one that is not.
abbrev pub StopsCopying : Placing → Target → List ℕ → List Found → Filed → Filed → Failure → Type 0
StopsCopying placing to stamp [] old new failure = ⊥
StopsCopying placing to stamp (f ∷ found) old new failure =
    (HasPath failure (string_bytes f.path) × IsNotCopied placing to stamp f old new failure.why)
    ⊎ ((mid : Filed) × IsCopied placing to stamp f old mid × StopsCopying placing to stamp found mid new failure)

-- why not all of these are copied: one may not be, and nothing was done; or one is not, after INDEXF.SYS may have grown
abbrev pub AreNotCopied : Placing → Target → List ℕ → List Found → Filed → Filed → Failure → Type 0
AreNotCopied placing to stamp found old new failure =
    ((new ≡ old) × IsFirstUncopyable (Some old.user) to found failure)
    ⊎ (MayAllBeCopied (Some old.user) to found × ((ready : Filed) × MayHaveGrown (length found) old ready × StopsCopying placing to stamp found ready new failure))

-- Why not all files that these paths select are copied, and what was done before: there are no sources, or no target, and nothing was done; or not
-- all of the sources are copied.
abbrev pub IsNotCopiedTo : Placing → List ℕ → List (Bor (List ℕ)) → List ℕ → Filed → Filed → Failure → Type 0
IsNotCopiedTo placing stamp paths to old new failure =
    ((new ≡ old) × AreNoSources old.image old.layout (highest alone.Files) paths failure)
    ⊎ ((found : List Found) × AreSources old.image old.layout (highest alone.Files) paths found
    × (((new ≡ old) × IsNoTarget old.image old.layout (length found) to failure.why × HasPath failure to)
    ⊎ ((target : Target) × IsTarget old.image old.layout (length found) to target × AreNotCopied placing target stamp found old new failure)))
