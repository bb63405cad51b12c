-- A volume after its change, field by field.
use Rattle.std.proofs.Common.{◌≡◌, ℕ, ◌-◌, List, [], ◌∷◌, ◌++◌, length, slice_index_or, ◌∙◌, ap, sym, subst, arith}
use Rattle.std.proofs.Math.Seq.{get_or-append_seam}
use Rattle.std.proofs.lemmas.List.{length-append}
use Rattle.ods_space.specs.Draft.{applied}
use Rattle.ods_space.specs.Layout.{VolumeLayout, with_places}
use Rattle.ods_request.specs.declared.answers.Entry.{Entry}
use Rattle.ods_state.specs.Version.{State}
use Rattle.ods_state.specs.Outcome.{IsLawfulPlan, Plan, carried_out, disk_of}
use Rattle.ods_base.specs.Image.{IsImage}
use Rattle.ods_state.specs.Version.{IsLawful}
use Rattle.ods_volume.specs.declared.ends.Falls.{Falls}
use Rattle.ods_volume.specs.Ends.{falls_for, stays}
use Rattle.ods_volume.proofs.EndsFollow.{kept_served, no_fault}
use Rattle.ods_volume.proofs.Struck.{strikes_by}
use Rattle.ods_volume.specs.Changing.{IsLawfulChange}
use Rattle.ods_volume.specs.Struck.{Strikes}

pub carried_is : (v : State) (p : Plan) (entries : List Entry) (image : List (List ℕ)) (layout : VolumeLayout) → entries ≡ v.entries ++ p.entry ∷ [] → image ≡ applied v.image p.changes → layout ≡ with_places v.layout p.places
    → record { mounted = v.mounted; entries = entries; image = image; layout = layout; limit = v.limit } ≡ carried_out v p
unfolding carried_out
carried_is v p entries image layout listed changed grown = λ i. record { mounted = v.mounted; entries = listed i; image = changed i; layout = grown i; limit = v.limit }

-- the newest entry after a plan is that of the plan
pub newest_is : (now v : State) (p : Plan) (count : ℕ) (e : Entry) → now ≡ carried_out v p → count ≡ length now.entries → slice_index_or now.entries (count - 1) e ≡ p.entry
unfolding carried_out
newest_is now v p count e changed counted =
    let listed : now.entries ≡ v.entries ++ p.entry ∷ [] = ap (λ (s : State). s.entries) changed in
    let place : count - 1 ≡ length v.entries = omega (arith, counted, ap length listed, length-append v.entries (p.entry ∷ [])) in
    (λ i. slice_index_or (listed i) (place i) e) ∙ get_or-append_seam v.entries p.entry [] e

-- the change of a lawful plan is lawful, by whatever words
pub change_of_plan : (v w : State) (p q : Plan) (falls : Falls) → v ≡ w → p ≡ q → IsLawful v → IsImage v.image → falls ≡ falls_for p.entry.request p.entry.answer → IsLawfulPlan w q
    → IsLawfulChange (disk_of v) (record { changes = p.changes; places = p.places; counts = p.counts; end = p.end; falls = falls })
unfolding carried_out
change_of_plan v w p q falls volume plan was image fall lawful = record {
  sound = here.lawful.version.sound;
  counted = here.counted;
  ended = here.ended;
  kept = λ end stay known.
      kept_served v.image (applied v.image p.changes) v.layout (with_places v.layout p.places) image was.version.sound here.lawful.version.sound p.entry.who p.entry.request p.entry.answer here.accepts.moves here.accepts.elsewhere
      was.version.catalogue was.version.shown (no_fault was.version.catalogue p.entry.who p.entry.request p.entry.answer (here.accepts.steps was.version.catalogue was.version.replayed))
      end (sym (ap (λ f. stays f end.file) fall) ∙ stay) known;
  struck = subst (Strikes v.image v.layout (applied v.image p.changes) (with_places v.layout p.places)) (sym fall)
      (strikes_by v.image (applied v.image p.changes) v.layout (with_places v.layout p.places) was.version.sound p.entry.request p.entry.answer here.accepts.moves here.accepts.elsewhere);
}
  where
    here : IsLawfulPlan v p
    here = subst (λ (x : State). IsLawfulPlan x p) (sym volume) (subst (IsLawfulPlan w) (sym plan) lawful)
