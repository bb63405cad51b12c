-- When a volume's list is settled: it consists of exactly the calls of the sessions.
use Rattle.std.specs.Prelude.{◌≡◌, ℕ, ◌+◌, ◌<◌, ◌≤◌, List, [], ◌∷◌, length, map, All, Result, Ok, Err, ◌==◌, if◌then◌else◌, slice_index_or}
use Rattle.std.specs.declared.vec.Vec.{Vec}
use Rattle.std.specs.declared.alloc.Global.{Global}
use Rattle.ods_request.specs.declared.answers.Entry.{Entry}
use Rattle.ods_state.specs.Version.{State}
use Rattle.ods_ask.specs.declared.outcome.Call.{Call}
use Rattle.ods_share.specs.declared.faults.SettleFault.{SettleFault}
use Rattle.ods_share.specs.declared.faults.SettleFault.TheVariants.{Unmatched, NoMemory}
use Rattle.ods_share.specs.declared.settlement.Report.{Report}
use Rattle.ods_share.specs.Scripts.{call_of}

-- a session's list of calls
abbrev pub Calls : Type 0
Calls = Vec Call Global

-- the call of an entry
abbrev pub call_in : Entry → Call
call_in e = call_of e.nth e.who e.request e.answer

-- the entries of a session, in order, as calls
abbrev pub calls_of : ℕ → List Entry → List Call
calls_of session [] = []
calls_of session (e ∷ entries) = if e.session == session then call_in e ∷ calls_of session entries else calls_of session entries

-- list k holds the entries of session k + 1, each once, in order
abbrev pub EachMatches : List Entry → List Calls → Type 0
EachMatches entries lists = (k : ℕ) (d : Calls) → k < length lists → (slice_index_or lists k d).items ≡ calls_of (k + 1) entries

-- each entry belongs to a session, and each session's entries are its calls
pub record AreCalls (entries : List Entry) (lists : List Calls) : Type 0 where
  pub sessions : All (λ e. (1 ≤ e.session) × (e.session ≤ length lists)) entries
  pub each : EachMatches entries lists

-- the image is the mounted one, and the list of the volume consists of the calls
pub record IsSettled (image : List (List ℕ)) (v : State) (lists : List Calls) : Type 0 where
  pub mounted : image ≡ v.mounted
  pub calls : AreCalls v.entries lists

-- the numbers of a report are the lengths of the lists
pub record AreLengths (entries : List Entry) (lists : List Calls) (r : Report) : Type 0 where
  pub all : r.entries ≡ length entries
  pub of_session : r.of_session.items ≡ map (λ (c : Calls). length c.items) lists

-- the result is Ok exactly if the list is settled, unless out of memory
abbrev pub SettlesAs : List (List ℕ) → State → List Calls → Result Report SettleFault → Type 0
SettlesAs image v lists (Ok r) = IsSettled image v lists × AreLengths v.entries lists r
SettlesAs image v lists (Err Unmatched) = ¬ IsSettled image v lists
SettlesAs image v lists (Err NoMemory) = IsSettled image v lists
