-- The effect of a request on a volume, and why it is refused.
use Rattle.std.specs.Prelude.{◌≡◌, ℕ, ◌<◌, ◌≤◌, true, List, [], ◌∷◌, ◌++◌, length, IsSome, MatchOption, Option, Some}
use Rattle.ods_base.specs.declared.file_id.Uic.{Uic}
use Rattle.ods_space.specs.Draft.{Changes, applied}
use Rattle.ods_request.specs.declared.requests.Request.{Request}
use Rattle.ods_space.specs.Layout.{Disk, with_places}
use Rattle.ods_alloc.specs.Counts.{Counts, AreCountsAfter}
use Rattle.ods_request.specs.declared.answers.Answer.{Answer}
use Rattle.ods_request.specs.declared.answers.Entry.{Entry}
use Rattle.ods_request.specs.declared.refusals.Refusal.{Refusal}
use Rattle.ods_request.specs.declared.refusals.Refusal.TheVariants as refusal
use Rattle.ods_request.specs.Catalogue.{Catalogue}
use Rattle.ods_request.specs.Faults.{fault_of}
use Rattle.ods_request.specs.Steps.{step}
use Rattle.ods_request.specs.Table.{takes_memory, given_version}
pub use Rattle.ods_request.specs.Queries.{request_of}
use Rattle.ods_state.specs.Version.{State, IsPresent, IsLawful}
use Rattle.ods_state.specs.declared.known_end.KnownEnd.{KnownEnd}
use Rattle.ods_state.specs.Ends.{IsKnownIn}
use Rattle.ods_state.specs.Wants.{Lacks}
use Rattle.ods_state.specs.Moves.{Moves, ChangesOnlyTouched}

-- the blocks of a volume with their layout
abbrev pub disk_of : State → Disk
disk_of v = record { image = v.image; layout = v.layout }

-- The request is accepted with this answer. It is a step of the present catalogue and the last entry of the list. Blocks and numbers move as the
-- request requires, and no other block changes.
pub record Accepts (old : State) (e : Entry) (new : State) : Type 0 where
  pub steps : (C : Catalogue) → IsPresent old C → IsSome (step C e.who e.request e.answer)
  pub entries : new.entries ≡ old.entries ++ e ∷ []
  pub moves : Moves (disk_of old) e.request e.answer (disk_of new)
  pub elsewhere : ChangesOnlyTouched (disk_of old) e.request (disk_of new)
  pub mounted : new.mounted ≡ old.mounted
  pub limit : new.limit ≡ old.limit

-- why a request is refused
pub data IsReason (v : State) (who : Uic) (r : Request) : Refusal → Type 0 where
  list_full : length v.entries ≡ v.limit → IsReason v who r refusal.ListFull
  fault_is : (C : Catalogue) (f : Refusal) → IsPresent v C → fault_of C who r ≡ Some f → IsReason v who r f
  lacks : (f : Refusal) → Lacks v.image v.layout r f → IsReason v who r f
  no_memory : takes_memory r ≡ true → IsReason v who r refusal.NoMemory

-- an accepted request with its answer, the blocks that it changes, and the blocks that INDEXF.SYS receives; the new counts of the bitmaps, if they
-- are computed; and the new note about the end of a file's chain
pub record Plan : Type 0 where
  pub entry : Entry
  pub changes : Changes
  pub places : List ℕ
  pub counts : Option Counts
  pub end : Option KnownEnd

-- the volume after the plan is carried out
unfoldable pub carried_out : State → Plan → State
carried_out v p = record {
  mounted = v.mounted;
  entries = v.entries ++ p.entry ∷ [];
  image = applied v.image p.changes;
  layout = with_places v.layout p.places;
  limit = v.limit;
}

-- the plan is lawful for this volume
pub record IsLawfulPlan (v : State) (p : Plan) : Type 0 where
  pub room : length v.entries < v.limit
  pub accepts : Accepts v p.entry (carried_out v p)
  pub lawful : IsLawful (carried_out v p)
  pub counted : AreCountsAfter v.image (applied v.image p.changes) v.layout p.counts
  pub ended : IsKnownIn (applied v.image p.changes) (with_places v.layout p.places) p.end

-- a version is a number from 1 to 32,767
abbrev pub IsVersionNumber : ℕ → Type 0
IsVersionNumber v = (1 ≤ v) × (v ≤ 32767)

-- the version that a request specifies is a valid one
abbrev pub CanBeAsked : Request → Type 0
CanBeAsked r = MatchOption (given_version r) (Unit {0}) IsVersionNumber

-- the entry of an accepted request
abbrev pub entry_of : ℕ → ℕ → Uic → Request → Answer → Entry
entry_of session nth who r a = record { session = session; nth = nth; who = who; request = r; answer = a }
