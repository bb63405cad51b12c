-- The preparation of a request.
use Rattle.std.specs.Prelude.{◌≡◌, ◌≢◌, ◌<◌, ◌⊎◌, ℕ, false, length, Result, Some, Ok, Err, IfOk, IfErr, IsErr}
use Rattle.ods_base.specs.declared.file_id.Uic.{Uic}
use Rattle.ods_request.specs.declared.answers.Answer.{Answer}
use Rattle.ods_request.specs.declared.requests.Request.{Request}
use Rattle.ods_request.specs.declared.refusals.Refusal.{Refusal}
use Rattle.ods_request.specs.declared.refusals.Refusal.TheVariants as refusal
use Rattle.ods_request.specs.Catalogue.{Catalogue}
use Rattle.ods_request.specs.Faults.{fault_of}
use Rattle.ods_request.specs.Table.{takes_memory}
use Rattle.ods_state.specs.Version.{State, IsPresent}
use Rattle.ods_state.specs.Wants.{Lacks}
use Rattle.ods_state.specs.Outcome.{Plan, IsLawfulPlan, IsReason, carried_out, disk_of, entry_of}
use Rattle.ods_volume.specs.Changing.{IsChangeFor, Parts}

-- the plan of a request on the volume v under a session's number, or why it is refused
pub record IsPrepared (v : State) (session nth : ℕ) (who : Uic) (r : Request) (result : Result Plan Refusal) : Type 0 where
  -- at the limit nothing else is checked
  pub full : length v.entries ≡ v.limit → result ≡ Err refusal.ListFull
  -- below it the result is the first fault that holds for the present catalogue
  pub refused : (C : Catalogue) (f : Refusal) → length v.entries < v.limit → IsPresent v C → fault_of C who r ≡ Some f → result ≡ Err f
  pub plan : IfOk result (λ p. IsLawfulPlan v p × (p.entry ≡ entry_of session nth who r p.entry.answer))
  -- a request is never accepted if the volume lacks what it needs
  pub lacking : (f : Refusal) → Lacks v.image v.layout r f → IsErr result
  pub reason : IfErr result (λ f. IsReason v who r f)
  -- LookUp, Read and Stat are never refused with NoMemory
  pub memory : takes_memory r ≡ false → result ≢ Err refusal.NoMemory

-- the plan of a request under a session's number, with this answer and this change
abbrev pub plan_of : ℕ → ℕ → Uic → Request → Answer → Parts → Plan
plan_of session nth who r a p = record { entry = entry_of session nth who r a; changes = p.changes; places = p.places; counts = p.counts; end = p.end }

-- the list has room for a request, and this is the change of the request with this answer
pub record IsPlanned (v : State) (who : Uic) (r : Request) (a : Answer) (p : Parts) : Type 0 where
  pub room : length v.entries < v.limit
  pub change : IsChangeFor (disk_of v) who r a p

-- why it is refused, under any number
abbrev pub IsWhyNotPlanned : State → Uic → Request → Refusal → Type 0
IsWhyNotPlanned v who r f = (session nth : ℕ) → IsPrepared v session nth who r (Err f)

-- The result of a request that is prepared and made at once. Its plan is carried out, and this is its answer. Or it is refused, as its preparation is
-- or with NoMemory, and the volume is unchanged.
abbrev pub IsMade : State → ℕ → ℕ → Uic → Request → Result Answer Refusal → State → Type 0
IsMade v session nth who r (Ok a) w = (p : Plan) × IsPrepared v session nth who r (Ok p) × (a ≡ p.entry.answer) × (w ≡ carried_out v p)
IsMade v session nth who r (Err f) w = (w ≡ v) × (IsPrepared v session nth who r (Err f) ⊎ ((f ≡ refusal.NoMemory) × ((p : Plan) × IsPrepared v session nth who r (Ok p))))
