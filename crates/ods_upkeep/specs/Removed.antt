-- The requests of rm: entries are removed, and then each file that no entry names any more is deleted.
use Rattle.std.specs.Prelude.{◌≡◌, ◌⊎◌, ◌==◌, ◌<◌, ℕ, Bool, true, false, if◌then◌else◌, List, [], ◌∷◌, ◌++◌, map, Option, Some, None}
use Rattle.std.specs.Borrow.{Bor}
use Rattle.std.specs.String.{string_bytes}
use Rattle.ods_base.specs.declared.name.Pick.TheVariants.{Exact}
use Rattle.ods_request.specs.declared.refusals.Refusal.TheVariants.{Reserved}
use Rattle.ods_request.specs.declared.requests.Request.{Request as Asked}
use Rattle.ods_request.specs.declared.requests.Request.TheVariants.{Delete, Remove}
use Rattle.ods_filing.specs.Filed.{Filed}
use Rattle.ods_filing.specs.Led.{Asks, Leads}
use Rattle.ods_shell.specs.declared.alone.Alone.TheVariants as alone
use Rattle.ods_shell.specs.declared.alone.Unsaid.{Unsaid}
use Rattle.ods_shell.specs.declared.facts.Facts.{Facts}
use Rattle.ods_shell.specs.declared.facts.Kind.TheVariants.{Directory}
use Rattle.ods_shell.specs.declared.found.EntryPlace.{EntryPlace}
use Rattle.ods_shell.specs.declared.found.Found.{Found}
use Rattle.ods_shell.specs.Named.{highest}
use Rattle.ods_upkeep.specs.Counted.{AreCounts, one_less}
use Rattle.ods_upkeep.specs.Pieces.{Stays}
use Rattle.ods_upkeep.specs.Refused.{AreNoSources, AreNotKept, HasPath, IsFirstKept, IsOutOfMemory, StopsAt}
use Rattle.ods_upkeep.specs.Sources.{AreSources}
use Rattle.ods_upkeep.specs.declared.failure.Failure.{Failure}
use Rattle.ods_upkeep.specs.declared.failure.Why.{Why}
use Rattle.ods_upkeep.specs.declared.failure.Why.TheVariants.{Path, Request, Text, Put, BadName, IsDirectory, DirectoryType, DirectoryThere, IntoItself, IsId, Several, Versioned, IsNamed, PastEnd, Hidden}

-- exactly these requests of the user, in order, each accepted
abbrev pub Does : Filed → List Asked → Filed → Type 0
Does old requests new = Leads old (map Asks requests) new

-- exactly this entry is removed
abbrev pub entry_gone : Option EntryPlace → List Asked
entry_gone None = []
entry_gone (Some p) = Remove p.directory p.entry.name (Exact p.entry.version) ∷ []

-- how many entries name each file, after this entry of the file is removed
abbrev pub names_left : (ℕ → ℕ) → Option EntryPlace → Option Facts → ℕ → ℕ
names_left names (Some p) (Some facts) = one_less names facts.file.number
names_left names (Some p) None = names
names_left names None known = names

-- the file is deleted, if no entry names it any more
abbrev pub file_gone : (ℕ → ℕ) → Option Facts → List Asked
file_gone names None = []
file_gone names (Some facts) = if names facts.file.number == 0 then Delete facts.file ∷ [] else []

-- one is removed: its entry, and its file unless only the entry is meant
abbrev pub one_gone : Bool → (ℕ → ℕ) → Option EntryPlace → Option Facts → List Asked
one_gone true names place known = entry_gone place
one_gone false names place known = entry_gone place ++ file_gone (names_left names place known) known

-- these are removed, in order, if entries name each file this often
abbrev pub removals : Bool → (ℕ → ℕ) → List Found → List Asked
removals entry_alone names [] = []
removals entry_alone names (f ∷ found) = one_gone entry_alone names f.place f.facts ++ removals entry_alone (names_left names f.place f.facts) found

-- the selection of a path that specifies none: with --newest the highest version
abbrev pub unsaid_by : Bool → Unsaid
unsaid_by true = highest alone.Refused
unsaid_by false = record { versions = None; alone = alone.Refused }

-- a file exists that is a directory
abbrev pub IsOfDirectory : Option Facts → Type 0
IsOfDirectory None = ⊥
IsOfDirectory (Some facts) = facts.kind ≡ Directory

-- a file exists that entries name
abbrev pub HasNames : (ℕ → ℕ) → Option Facts → Type 0
HasNames names None = ⊥
HasNames names (Some facts) = 0 < names facts.file.number

-- Why one may not be removed: it stays; it has no entry, and only the entry is meant; or the file is meant too, and is a directory, or is named by
-- its ID while entries name it.
abbrev pub MayNotGo : Bool → (ℕ → ℕ) → Found → Why → Type 0
MayNotGo entry_alone names f (Request reason) = (reason ≡ Reserved) × Stays f.place f.facts
MayNotGo entry_alone names f IsId = (entry_alone ≡ true) × (f.place ≡ None)
MayNotGo entry_alone names f IsDirectory = (entry_alone ≡ false) × IsOfDirectory f.facts
MayNotGo entry_alone names f IsNamed = (entry_alone ≡ false) × (f.place ≡ None) × HasNames names f.facts
MayNotGo entry_alone names f (Path fault) = ⊥
MayNotGo entry_alone names f (Text fault) = ⊥
MayNotGo entry_alone names f (Put fault) = ⊥
MayNotGo entry_alone names f BadName = ⊥
MayNotGo entry_alone names f DirectoryType = ⊥
MayNotGo entry_alone names f DirectoryThere = ⊥
MayNotGo entry_alone names f IntoItself = ⊥
MayNotGo entry_alone names f Several = ⊥
MayNotGo entry_alone names f Versioned = ⊥
MayNotGo entry_alone names f PastEnd = ⊥
MayNotGo entry_alone names f Hidden = ⊥

-- Each entry that these paths select is removed, and, unless only the entries are meant, each file that no entry names then is deleted. All may be
-- removed, and nothing else was done.
abbrev pub IsRemoved : Bool → Bool → List (Bor (List ℕ)) → Filed → Filed → Type 0
IsRemoved entry_alone newest paths old new =
    (found : List Found) × ((names : ℕ → ℕ) × AreSources old.image old.layout (unsaid_by newest) paths found × AreCounts old.image old.layout names
    × AreNotKept (MayNotGo entry_alone names) found × Does old (removals entry_alone names found) new)

-- These are removed, in order, up to one with a request that is not done.
abbrev pub StopsGoing : Bool → (ℕ → ℕ) → List Found → Filed → Filed → Failure → Type 0
StopsGoing entry_alone names [] old new failure = ⊥
StopsGoing entry_alone names (f ∷ found) old new failure =
    (HasPath failure (string_bytes f.path) × StopsAt old (one_gone entry_alone names f.place f.facts) new failure.why)
    ⊎ ((mid : Filed) × Does old (one_gone entry_alone names f.place f.facts) mid × StopsGoing entry_alone (names_left names f.place f.facts) found mid new failure)

-- why not all of these are removed: one may not be, and nothing was done; or a request is not done
abbrev pub AreNotGone : Bool → (ℕ → ℕ) → List Found → Filed → Filed → Failure → Type 0
AreNotGone entry_alone names found old new failure =
    ((new ≡ old) × IsFirstKept (MayNotGo entry_alone names) found failure)
    ⊎ (AreNotKept (MayNotGo entry_alone names) found × StopsGoing entry_alone names found old new failure)

-- Why not all that these paths select is removed, and what was done before: there are no sources, or no memory to count names, and nothing was done;
-- or not all of the sources are removed.
abbrev pub IsNotRemoved : Bool → Bool → List (Bor (List ℕ)) → Filed → Filed → Failure → Type 0
IsNotRemoved entry_alone newest paths old new failure =
    ((new ≡ old) × AreNoSources old.image old.layout (unsaid_by newest) paths failure)
    ⊎ ((found : List Found) × AreSources old.image old.layout (unsaid_by newest) paths found
    × (((new ≡ old) × IsOutOfMemory failure) ⊎ ((names : ℕ → ℕ) × AreCounts old.image old.layout names × AreNotGone entry_alone names found old new failure)))
