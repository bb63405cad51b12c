-- The requests of mv: each name is entered anew, and then the found entry is removed.
use Rattle.std.specs.Prelude.{◌≡◌, ◌≢◌, ◌⊎◌, ◌==◌, ℕ, if◌then◌else◌, List, [], ◌∷◌, length, Option, Some, None, unwrap_or}
use Rattle.std.specs.Borrow.{Bor}
use Rattle.std.specs.String.{string_bytes}
use Rattle.ods_base.specs.Name.{RadName, directory_type}
use Rattle.ods_base.specs.declared.name.Pick.TheVariants as pick
use Rattle.ods_space.specs.Layout.{VolumeLayout}
use Rattle.ods_mount.specs.Faults.{IsDirectoryFile}
use Rattle.ods_walk.specs.Complete.{LeadsPast}
use Rattle.ods_filing.specs.Filed.{Filed, IsRefusedFor}
use Rattle.ods_filing.specs.Led.{IsObeyed}
use Rattle.ods_request.specs.declared.refusals.Refusal.{Refusal}
use Rattle.ods_request.specs.declared.refusals.Refusal.TheVariants as refusal
use Rattle.ods_request.specs.declared.requests.Request.{Request as Asked}
use Rattle.ods_request.specs.declared.requests.Request.TheVariants.{Enter, LookUp, Remove}
use Rattle.ods_shell.specs.declared.alone.Alone.TheVariants as alone
use Rattle.ods_shell.specs.Named.{highest}
use Rattle.ods_shell.specs.declared.facts.Facts.{Facts}
use Rattle.ods_shell.specs.declared.facts.Kind.TheVariants.{Directory}
use Rattle.ods_shell.specs.declared.found.EntryPlace.{EntryPlace}
use Rattle.ods_shell.specs.declared.found.Found.{Found}
use Rattle.ods_upkeep.specs.Pieces.{Stays}
use Rattle.ods_upkeep.specs.Refused.{AreNoSources, AreNotKept, HasPath, IsFirstKept, StopsAt, no_memory}
use Rattle.ods_upkeep.specs.Removed.{Does}
use Rattle.ods_upkeep.specs.Sources.{AreSources}
use Rattle.ods_upkeep.specs.Target.{IsNoTarget, IsTarget}
use Rattle.ods_upkeep.specs.declared.failure.Failure.{Failure}
use Rattle.ods_upkeep.specs.declared.failure.Why.{Why}
use Rattle.ods_upkeep.specs.declared.failure.Why.TheVariants.{Path, Request, Text, Put, BadName, IsDirectory, DirectoryType, DirectoryThere, IntoItself, IsId, Several, Versioned, IsNamed, PastEnd, Hidden}
use Rattle.ods_upkeep.specs.declared.target.Target.{Target}

-- the given name, or the name of the entry
abbrev pub name_for : Target → EntryPlace → RadName
name_for to p = unwrap_or to.name p.entry.name

-- the given version; 1 for a directory; otherwise the next one
abbrev pub version_for : Option ℕ → RadName → Option ℕ
version_for (Some said) name = Some said
version_for None name = if name.ext == directory_type then Some 1 else None

-- one name moves; a file named by an ID has no name
abbrev pub one_moved : Target → Option EntryPlace → List Asked
one_moved to None = []
one_moved to (Some p) =
    Enter to.directory (name_for to p) (version_for to.version (name_for to p)) p.entry.file ∷ Remove p.directory p.entry.name (pick.Exact p.entry.version) ∷ []

-- a directory of this name is looked up: without another given version, it gets version 1
abbrev pub IsLookedUp : Target → RadName → Type 0
IsLookedUp to name = (to.version ≡ None) × (name.ext ≡ directory_type)

-- if it is looked up, it does not exist
abbrev pub IsFreeName : Filed → Target → RadName → Type 0
IsFreeName f to name = IsLookedUp to name → (reason : Refusal) × IsRefusedFor f (LookUp to.directory name pick.Highest) reason

-- it is looked up, and exists
abbrev pub IsTakenName : Target → RadName → Filed → Filed → Why → Type 0
IsTakenName to name old new why = IsLookedUp to name × IsObeyed old (LookUp to.directory name pick.Highest) new × (why ≡ Request refusal.NameTaken)

-- the name for an entry is free
abbrev pub IsFree : Filed → Target → Option EntryPlace → Type 0
IsFree f to None = Unit {0}
IsFree f to (Some p) = IsFreeName f to (name_for to p)

-- These names move, in order, each if it is free then.
abbrev pub AreMoved : Target → List Found → Filed → Filed → Type 0
AreMoved to [] old new = new ≡ old
AreMoved to (f ∷ found) old new = (mid : Filed) × IsFree old to f.place × Does old (one_moved to f.place) mid × AreMoved to found mid new

-- of the types of the entry and of its new name, exactly one is DIR
abbrev pub ChangesType : Target → Option EntryPlace → Type 0
ChangesType to None = ⊥
ChangesType to (Some p) =
    ((p.entry.name.ext ≡ directory_type) × ((name_for to p).ext ≢ directory_type)) ⊎ ((p.entry.name.ext ≢ directory_type) × ((name_for to p).ext ≡ directory_type))

-- a directory is this one, or names reach this one from it without the master directory between
abbrev pub HasBelow : List (List ℕ) → VolumeLayout → ℕ → ℕ → Type 0
HasBelow I L from to = (from ≡ to) ⊎ (IsDirectoryFile I L from × ((names : List RadName) × LeadsPast I L (4 ∷ []) from names to))

-- a directory would go into itself or below
abbrev pub GoesIntoItself : List (List ℕ) → VolumeLayout → Target → Option Facts → Type 0
GoesIntoItself I L to None = ⊥
GoesIntoItself I L to (Some facts) = (facts.kind ≡ Directory) × HasBelow I L facts.file.number to.directory.number

-- Why a name may not move: it is an ID; it stays; exactly one of the types is DIR; or a directory would be entered in itself or below.
abbrev pub MayNotMove : List (List ℕ) → VolumeLayout → Target → Found → Why → Type 0
MayNotMove I L to f (Request reason) = (reason ≡ refusal.Reserved) × Stays f.place f.facts
MayNotMove I L to f IsId = f.place ≡ None
MayNotMove I L to f DirectoryType = ChangesType to f.place
MayNotMove I L to f IntoItself = GoesIntoItself I L to f.facts
MayNotMove I L to f (Path fault) = ⊥
MayNotMove I L to f (Text fault) = ⊥
MayNotMove I L to f (Put fault) = ⊥
MayNotMove I L to f BadName = ⊥
MayNotMove I L to f IsDirectory = ⊥
MayNotMove I L to f DirectoryThere = ⊥
MayNotMove I L to f Several = ⊥
MayNotMove I L to f Versioned = ⊥
MayNotMove I L to f IsNamed = ⊥
MayNotMove I L to f PastEnd = ⊥
MayNotMove I L to f Hidden = ⊥

-- Each name that these paths select, the highest version if they specify none, has moved to the target of the last path. All may move, and nothing
-- else was done.
abbrev pub IsMoved : List (Bor (List ℕ)) → List ℕ → Filed → Filed → Type 0
IsMoved paths to old new =
    (found : List Found) × ((target : Target) × AreSources old.image old.layout (highest alone.Themselves) paths found × IsTarget old.image old.layout (length found) to target
    × AreNotKept (MayNotMove old.image old.layout target) found × AreMoved target found old new)

-- why a name does not move that may: a directory of its new name exists; or one of its requests is not done
abbrev pub IsNotMoving : Target → Option EntryPlace → Filed → Filed → Why → Type 0
IsNotMoving to None old new why = (new ≡ old) × (why ≡ IsId)
IsNotMoving to (Some p) old new why =
    IsTakenName to (name_for to p) old new why ⊎ (IsFreeName old to (name_for to p) × StopsAt old (one_moved to (Some p)) new why)

-- These move, in order, up to one that does not.
abbrev pub StopsMoving : Target → List Found → Filed → Filed → Failure → Type 0
StopsMoving to [] old new failure = ⊥
StopsMoving to (f ∷ found) old new failure =
    (HasPath failure (string_bytes f.path) × IsNotMoving to f.place old new failure.why)
    ⊎ ((mid : Filed) × IsFree old to f.place × Does old (one_moved to f.place) mid × StopsMoving to found mid new failure)

-- why not all of these move: one may not, or memory runs out before that is determined, and nothing was done; or one does not
abbrev pub AreNotMoved : Target → List Found → Filed → Filed → Failure → Type 0
AreNotMoved to found old new failure =
    ((new ≡ old) × IsFirstKept (MayNotMove old.image old.layout to) found failure)
    ⊎ (((new ≡ old) × (failure.why ≡ no_memory)) ⊎ (AreNotKept (MayNotMove old.image old.layout to) found × StopsMoving to found old new failure))

-- Why not all names that these paths select move, and what was done before: there are no sources, or no target, and nothing was done; or not all of
-- the sources move.
abbrev pub IsNotMoved : List (Bor (List ℕ)) → List ℕ → Filed → Filed → Failure → Type 0
IsNotMoved paths to old new failure =
    ((new ≡ old) × AreNoSources old.image old.layout (highest alone.Themselves) paths failure)
    ⊎ ((found : List Found) × AreSources old.image old.layout (highest alone.Themselves) paths found
    × (((new ≡ old) × IsNoTarget old.image old.layout (length found) to failure.why × HasPath failure to)
    ⊎ ((target : Target) × IsTarget old.image old.layout (length found) to target × AreNotMoved target found old new failure)))
