-- Why commands are refused: a path selects nothing, a request is refused, or out of memory.
use Rattle.std.specs.Prelude.{◌≡◌, ◌⊎◌, ℕ, List, [], ◌∷◌, ◌++◌, codes, Option, Some, None}
use Rattle.std.specs.Borrow.{Bor}
use Rattle.std.specs.List.{All}
use Rattle.std.specs.String.{string_bytes}
use Rattle.ods_space.specs.Layout.{VolumeLayout}
use Rattle.ods_request.specs.declared.refusals.Refusal.{Refusal}
use Rattle.ods_request.specs.declared.refusals.Refusal.TheVariants as refusal
use Rattle.ods_request.specs.declared.requests.Request.{Request as Asked}
use Rattle.ods_request.specs.Refusals.{refusal_row}
use Rattle.ods_state.specs.Outcome.{CanBeAsked}
use Rattle.ods_filing.specs.Filed.{Filed, IsRefusedFor}
use Rattle.ods_filing.specs.Led.{IsObeyed}
use Rattle.ods_shell.specs.declared.alone.Unsaid.{Unsaid}
use Rattle.ods_shell.specs.declared.found.Found.{Found}
use Rattle.ods_shell.specs.declared.path_fault.PathFault.{PathFault}
use Rattle.ods_shell.specs.declared.path_fault.PathFault.TheVariants as fault
use Rattle.ods_shell.specs.Named.{IsPathFault}
use Rattle.ods_shell.specs.Remedies.{Row}
use Rattle.ods_upkeep.specs.declared.failure.Failure.{Failure}
use Rattle.ods_upkeep.specs.declared.failure.Why.{Why}
use Rattle.ods_upkeep.specs.declared.failure.Why.TheVariants.{Path, Request, Text, Put, BadName, IsDirectory, DirectoryType, DirectoryThere, IntoItself, IsId, Several, Versioned, IsNamed, PastEnd, Hidden}
use Rattle.ods_upkeep.specs.Sources.{AreOfPaths}

-- there is no memory
abbrev pub no_memory : Why
no_memory = Request refusal.NoMemory

-- a path has this fault
abbrev pub for_fault : PathFault → Why
for_fault (fault.Bad bad) = Path (fault.Bad bad)
for_fault fault.NoName = Path fault.NoName
for_fault fault.NoVersion = Path fault.NoVersion
for_fault fault.IsId = Path fault.IsId
for_fault fault.Nothing = Path fault.Nothing
for_fault fault.NoSuchFile = Path fault.NoSuchFile
for_fault fault.NoMemory = no_memory

-- the volume refuses the request, and the command for the same reason
abbrev pub IsRefusedBy : Filed → Asked → Why → Type 0
IsRefusedBy f r why = (reason : Refusal) × (why ≡ Request reason) × IsRefusedFor f r reason

-- why a request is not done: the volume refuses it; or its version is not valid, and it is not made
abbrev pub IsNotDone : Filed → Asked → Why → Type 0
IsNotDone f r why = IsRefusedBy f r why ⊎ ((¬ CanBeAsked r) × (why ≡ Request refusal.VersionsFull))

-- Of these requests, in order, all before one are accepted. That one is not done for this reason, and no more are made.
abbrev pub StopsAt : Filed → List Asked → Filed → Why → Type 0
StopsAt old [] new why = ⊥
StopsAt old (r ∷ rs) new why = ((new ≡ old) × IsNotDone old r why) ⊎ ((mid : Filed) × IsObeyed old r mid × StopsAt mid rs new why)

-- the failure has this path, or none if there is no memory for it
abbrev pub HasPath : Failure → List ℕ → Type 0
HasPath failure path = (string_bytes failure.path ≡ path) ⊎ (string_bytes failure.path ≡ [])

-- there is no memory, and no path is to blame
abbrev pub IsOutOfMemory : Failure → Type 0
IsOutOfMemory failure = (string_bytes failure.path ≡ []) × (failure.why ≡ no_memory)

-- why a path selects nothing
abbrev pub IsNoSource : List (List ℕ) → VolumeLayout → Unsaid → List ℕ → Why → Type 0
IsNoSource I L unsaid path why = (fault : PathFault) × (why ≡ for_fault fault) × IsPathFault I L path unsaid fault

-- the first of these paths that selects nothing, and why
pub record IsFirstNoSource (I : List (List ℕ)) (L : VolumeLayout) (unsaid : Unsaid) (paths : List (Bor (List ℕ))) (failure : Failure) : Type 0 where
  pub before : List (Bor (List ℕ))
  pub path : Bor (List ℕ)
  pub behind : List (Bor (List ℕ))
  pub order : paths ≡ before ++ path ∷ behind
  -- the paths before it select these
  pub named : List Found
  pub are : AreOfPaths I L unsaid before named
  pub none : IsNoSource I L unsaid path.now failure.why
  pub said : HasPath failure path.now

-- why there are no sources: one of the paths selects nothing, or there is no memory to compare them
abbrev pub AreNoSources : List (List ℕ) → VolumeLayout → Unsaid → List (Bor (List ℕ)) → Failure → Type 0
AreNoSources I L unsaid paths failure = IsFirstNoSource I L unsaid paths failure ⊎ IsOutOfMemory failure

-- One of these may not be changed, as the failure states; all before it may.
abbrev pub IsFirstKept : (Found → Why → Type 0) → List Found → Failure → Type 0
IsFirstKept IsKept [] failure = ⊥
IsFirstKept IsKept (f ∷ found) failure =
    (IsKept f failure.why × HasPath failure (string_bytes f.path)) ⊎ (((why : Why) → ¬ IsKept f why) × IsFirstKept IsKept found failure)

-- each of these may be changed
abbrev pub AreNotKept : (Found → Why → Type 0) → List Found → Type 0
AreNotKept IsKept found = All (λ f. (why : Why) → ¬ IsKept f why) found

-- the name of the refusal of a request; a refusal for another reason has none
abbrev pub refusal_name : Why → List ℕ
refusal_name (Request reason) = (refusal_row reason).1
refusal_name (Path fault) = []
refusal_name (Text fault) = []
refusal_name (Put fault) = []
refusal_name BadName = []
refusal_name IsDirectory = []
refusal_name DirectoryType = []
refusal_name DirectoryThere = []
refusal_name IntoItself = []
refusal_name IsId = []
refusal_name Several = []
refusal_name Versioned = []
refusal_name IsNamed = []
refusal_name PastEnd = []
refusal_name Hidden = []

-- why a request is refused this way, by the row of the refusal's name among the remedies
abbrev pub reason_text : Option Row → List ℕ
reason_text None = codes "it is refused"
reason_text (Some row) = row.1

-- and the remedy then
abbrev pub remedy_text : Option Row → List ℕ
remedy_text None = codes "'check --all' says what is wrong with the volume"
remedy_text (Some row) = row.2
