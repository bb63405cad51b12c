-- A step is accepted, and its volume stays lawful.
use Rattle.std.proofs.Common.{◌≡◌, ℕ, ◌<◌, refl, true, List, [], ◌∷◌, ◌++◌, length, Option, Some, None, is_some}
use Rattle.std.specs.Prelude.{IsSome}
use Rattle.ods_base.specs.declared.file_id.Uic.{Uic}
use Rattle.ods_space.specs.Layout.{VolumeLayout, with_places}
use Rattle.ods_space.specs.Draft.{Changes, applied}
use Rattle.ods_alloc.specs.Counts.{AreCountsAfter, Counts}
use Rattle.ods_request.specs.declared.requests.Request.{Request}
use Rattle.ods_request.specs.declared.answers.Answer.{Answer}
use Rattle.ods_request.specs.declared.answers.Entry.{Entry}
use Rattle.ods_request.specs.Catalogue.{Catalogue}
use Rattle.ods_request.specs.Steps.{step}
use Rattle.ods_state.specs.Version.{State, IsLawful, IsPresent}
use Rattle.ods_state.specs.declared.known_end.KnownEnd.{KnownEnd}
use Rattle.ods_state.specs.Ends.{IsKnownIn}
use Rattle.ods_state.specs.Served.{IsStepOf}
use Rattle.ods_state.specs.Outcome.{Accepts, IsLawfulPlan, carried_out, entry_of}
use Rattle.ods_state.proofs.One.{present_is_shown}
use Rattle.ods_state.proofs.Steps.{lawful_after}

-- what a step leaves
pub left_by : (o : Option Catalogue) → is_some o ≡ true → (D : Catalogue) × (o ≡ Some D)
left_by None e = absurd (cc)
left_by (Some D) e = (D, refl)

module _ (v : State) (lawful : IsLawful v) (e : Entry) (J : List (List ℕ)) (M : VolumeLayout) (room : length v.entries < v.limit)
    (made : IsStepOf v.image v.layout e.who e.request e.answer J M) where
  -- the volume after the step
  abbrev next : State
  next = record { mounted = v.mounted; entries = v.entries ++ e ∷ []; image = J; layout = M; limit = v.limit }

  -- each present catalogue makes this step
  pub steps : (C : Catalogue) → IsPresent v C → IsSome (step C e.who e.request e.answer)
  steps C present = made.answered C (present_is_shown v C lawful present) (lawful.past C present)

  pub next_is_lawful : IsLawful next
  next_is_lawful =
      let C = lawful.version.catalogue in
      let present : IsPresent v C = lawful.version.replayed in
      let left = left_by (step C e.who e.request e.answer) (steps C present) in
      let now = made.shown C left.0 lawful.version.shown (lawful.past C present) left.1 in
      lawful_after v e J M C left.0 lawful room present left.1 made.sound now.0 now.1

  pub next_is_accepted : Accepts v e next
  next_is_accepted = record {
    steps = steps;
    entries = refl;
    moves = made.moves;
    elsewhere = made.elsewhere;
    mounted = refl;
    limit = refl;
  }

-- the plan of a step
pub plan_is_lawful : (v : State) → IsLawful v → (session nth : ℕ) (who : Uic) (r : Request) (a : Answer) (d : Changes) (places : List ℕ) (counts : Option Counts) (end : Option KnownEnd) → length v.entries < v.limit
    → IsStepOf v.image v.layout who r a (applied v.image d) (with_places v.layout places) → AreCountsAfter v.image (applied v.image d) v.layout counts
    → IsKnownIn (applied v.image d) (with_places v.layout places) end
    → IsLawfulPlan v (record { entry = entry_of session nth who r a; changes = d; places = places; counts = counts; end = end })
unfolding carried_out
plan_is_lawful v lawful session nth who r a d places counts end room made counted ended =
    let e = entry_of session nth who r a in
    record {
      room = room;
      accepts = next_is_accepted v lawful e (applied v.image d) (with_places v.layout places) room made;
      lawful = next_is_lawful v lawful e (applied v.image d) (with_places v.layout places) room made;
      counted = counted;
      ended = ended;
    }
