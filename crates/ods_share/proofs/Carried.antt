-- A volume after its change, and its list.
use Rattle.std.proofs.Common.{◌≡◌, ℕ, ◌+◌, List, [], ◌∷◌, ◌++◌, length, ap, sym, subst, ◌∙◌, append_assoc, length-append}
use Rattle.std.specs.Prelude.{Result, Ok, Err, IfOk, OnErr}
use Rattle.ods_space.specs.Draft.{applied}
use Rattle.ods_space.specs.Layout.{with_places}
use Rattle.ods_base.specs.declared.file_id.Uic.{Uic}
use Rattle.ods_request.specs.declared.answers.Answer.{Answer}
use Rattle.ods_request.specs.declared.answers.Entry.{Entry}
use Rattle.ods_request.specs.declared.refusals.Refusal.{Refusal}
use Rattle.ods_request.specs.declared.requests.Request.{Request}
use Rattle.ods_request.specs.Lists.{Begins}
use Rattle.ods_state.specs.Version.{State}
use Rattle.ods_state.specs.Outcome.{Accepts, Plan, carried_out}
use Rattle.ods_volume.specs.Preparing.{IsMade}
use Rattle.ods_views.specs.Viewers.{IsOpened, LeadsTo}
use Rattle.ods_views.specs.declared.version.Change.{Change}
use Rattle.ods_views.specs.declared.version.Version.{Version}
use Rattle.ods_share.proofs.Desks.{begins_same}

-- the copy of a change leads from the version that shows the volume to what comes of it
pub leads_there : (x : Version) (v w : State) (p : Plan) (c : Change) (pending : List Change) → pending ≡ c ∷ [] → w ≡ carried_out v p →
    x.image ≡ v.image → x.layout ≡ v.layout → c.draft ≡ p.changes → c.places.items ≡ p.places → c.count ≡ length v.entries + 1 → LeadsTo x pending w
unfolding carried_out
leads_there x v w p c pending one is image layout draft places count =
    subst (λ ps. LeadsTo x ps w) (sym one) (subst (λ s. LeadsTo x (c ∷ []) s) (sym is)
    (count ∙ sym (length-append v.entries (p.entry ∷ [])), λ i. applied (image i) (draft i), λ i. with_places (layout i) (places i)))

-- a beginning of a list begins what goes on
pub begins_on : (E F G more : List Entry) → Begins E F → G ≡ F ++ more → Begins E G
begins_on E F G more b is = (b.0 ++ more, is ∙ (ap (λ (l : List Entry). l ++ more) b.1 ∙ append_assoc E b.0 more))

-- the volume is over the same image, its list goes on, and its limit stays
pub carried_on : (M : List (List ℕ)) (opening : List Entry) (limit : ℕ) (v w : State) (p : Plan) → w ≡ carried_out v p → IsOpened M opening v → v.limit ≡ limit → IsOpened M opening w × (w.limit ≡ limit)
unfolding carried_out
carried_on M opening limit v w p is was same = (
  record {
    named = ap (λ (s : State). s.mounted) is ∙ was.named;
    begun = begins_on opening v.entries w.entries (p.entry ∷ []) was.begun (ap (λ (s : State). s.entries) is);
  },
  ap (λ (s : State). s.limit) is ∙ same,
)

-- accepted or refused, the list before begins the list after
pub grows : (old new : State) (e : Answer → Entry) (result : Result Answer Refusal) → IfOk result (λ a. Accepts old (e a) new) → OnErr result (new ≡ old) → Begins old.entries new.entries
grows old new e (Ok a) accepted unchanged = (e a ∷ [], accepted.entries)
grows old new e (Err f) accepted same = begins_same old.entries new.entries (ap (λ (s : State). s.entries) same)

-- a request that is made at once leaves the volume over the same image, with a list that goes on and with its limit
pub made_on : (M : List (List ℕ)) (opening : List Entry) (limit : ℕ) (v w : State) (session nth : ℕ) (who : Uic) (r : Request) (result : Result Answer Refusal) → IsMade v session nth who r result w → IsOpened M opening v
    → v.limit ≡ limit → IsOpened M opening w × (w.limit ≡ limit)
made_on M opening limit v w session nth who r (Ok a) (p, prepared, answered, is) was same = carried_on M opening limit v w p is was same
made_on M opening limit v w session nth who r (Err f) (is, why) was same = (subst (IsOpened M opening) (sym is) was, ap (λ (s : State). s.limit) is ∙ same)
