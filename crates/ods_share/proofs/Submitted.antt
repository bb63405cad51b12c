-- What comes of a request at a desk, by what its volume prepared for it.
use Rattle.std.proofs.Common.{◌≡◌, ◌∙◌, ℕ, List, refl, sym, ap, subst, length, inl, inr}
use Rattle.std.specs.Prelude.{Result, Ok, Err, IfOk, IfErr}
use Rattle.ods_base.specs.declared.file_id.Uic.{Uic}
use Rattle.ods_request.specs.declared.requests.Request.{Request}
use Rattle.ods_request.specs.declared.answers.Answer.{Answer}
use Rattle.ods_request.specs.declared.answers.Entry.{Entry}
use Rattle.ods_request.specs.declared.refusals.Refusal.{Refusal}
use Rattle.ods_request.specs.declared.refusals.Refusal.TheVariants as refusal
use Rattle.ods_request.specs.Lists.{Begins}
use Rattle.ods_state.specs.Version.{State}
use Rattle.ods_state.specs.Wants.{Lacks}
use Rattle.ods_state.specs.Outcome.{Accepts, Plan, carried_out, entry_of}
use Rattle.ods_volume.specs.Preparing.{IsMade, IsPrepared}
use Rattle.ods_share.specs.Desks.{IsDeskReason, IsSubmitted}
use Rattle.ods_share.proofs.Carried.{grows}
use Rattle.ods_share.proofs.Desks.{desk_reasons}
use Rattle.ods_share.proofs.Refusals.{planned, planned_has_none, planned_lacks_nothing, refused_is_first, made_is_accepted, made_or_no_memory, made_or_same}

abbrev errs : {A : Type 0} → Refusal → Result A Refusal
errs f = Err f

full_as : {A B : Type 0} {f g : Refusal} → errs {A = A} f ≡ Err g → errs {A = B} f ≡ Err g
full_as {f = f} {g = g} e =
    let is : f ≡ g = cc in
    ap Err is

not_planned : {A B : Type 0} {p : A} {result : Result B Refusal} {f : Refusal} → planned p ≡ Err f → result ≡ Err f
not_planned e = absurd (cc)

-- what the volume refuses
pub denied_as_planned : (v w : State) (session nth : ℕ) (who : Uic) (r : Request) (f : Refusal) → v ≡ w
    → IsPrepared v session nth who r (Err f) → IsSubmitted w session nth who r (Err f) w
denied_as_planned v w session nth who r f same from = record {
  full = λ e. full_as (from.full (subst (λ (u : State). length u.entries ≡ u.limit) (sym same) e));
  refused = refused_is_first v w who r f same from.refused;
  accepted = tt;
  lacking = λ g lacks. refl;
  reason = subst (λ (u : State). IsDeskReason u who r f) same (desk_reasons v who r (Err f) from.reason);
  unchanged = refl;
}

-- what the volume planned, and the desk made or had no memory for
pub made_as_planned : (v old new : State) (session nth : ℕ) (who : Uic) (r : Request) (p : Plan) (result : Result Answer Refusal) → v ≡ old
    → IsPrepared v session nth who r (Ok p) → IfOk result (λ a. Accepts old p.entry new × (a ≡ p.entry.answer))
    → IfErr result (λ f. (f ≡ refusal.NoMemory) × (new ≡ old)) → IsSubmitted old session nth who r result new
made_as_planned v old new session nth who r p result same from made failed = record {
  full = λ e. not_planned (from.full (subst (λ (u : State). length u.entries ≡ u.limit) (sym same) e));
  refused = planned_has_none v old who r p result same from.refused;
  accepted = made_is_accepted old new p.entry (entry_of session nth who r) result from.plan.1 made;
  lacking = λ f lacks. planned_lacks_nothing p result (from.lacking f (subst (λ (u : State). Lacks u.image u.layout r f) (sym same) lacks));
  reason = made_or_no_memory old who r (new ≡ old) result failed;
  unchanged = made_or_same (new ≡ old) result failed;
}

-- where the answer of the plan is told in place of the one that was given, and each failure as it is
abbrev pub IsToldAs : Answer → Result Answer Refusal → Result Answer Refusal → Type 0
IsToldAs a (Ok b) (Ok told) = told ≡ a
IsToldAs a (Err f) (Err g) = g ≡ f
IsToldAs a (Ok b) (Err g) = ⊥
IsToldAs a (Err f) (Ok told) = ⊥

pub made_as_told : (v old new : State) (session nth : ℕ) (who : Uic) (r : Request) (p : Plan) (done told : Result Answer Refusal) → v ≡ old → IsPrepared v session nth who r (Ok p)
    → IfOk done (λ a. Accepts old p.entry new × (a ≡ p.entry.answer)) → IfErr done (λ f. (f ≡ refusal.NoMemory) × (new ≡ old)) → IsToldAs p.entry.answer done told → IsSubmitted old session nth who r told new
made_as_told v old new session nth who r p (Ok a) (Ok b) same from made failed is = made_as_planned v old new session nth who r p (Ok b) same from (made.0, is) tt
made_as_told v old new session nth who r p (Err f) (Err g) same from made failed is = made_as_planned v old new session nth who r p (Err g) same from tt (is ∙ failed.0, failed.1)
made_as_told v old new session nth who r p (Ok a) (Err g) same from made failed is = absurd is
made_as_told v old new session nth who r p (Err f) (Ok b) same from made failed is = absurd is

-- what the volume planned and made at once
pub made_at_once : (v old new : State) (session nth : ℕ) (who : Uic) (r : Request) (result : Result Answer Refusal) → v ≡ old → IsMade v session nth who r result new → IsSubmitted old session nth who r result new
made_at_once v old new session nth who r (Ok a) same (p, prepared, answered, is) = made_as_planned v old new session nth who r p (Ok a) same prepared (accepts, answered) tt
  where
    accepts : Accepts old p.entry new
    accepts = subst (λ (w : State). Accepts old p.entry w) (sym is) (subst (λ (u : State). Accepts u p.entry (carried_out v p)) same prepared.plan.0.accepts)
made_at_once v old new session nth who r (Err f) same (stays, inl refused) =
    subst (λ (w : State). IsSubmitted old session nth who r (Err f) w) (sym (stays ∙ same)) (denied_as_planned v old session nth who r f same refused)
made_at_once v old new session nth who r (Err f) same (stays, inr (short, plan)) = made_as_planned v old new session nth who r plan.0 (Err f) same plan.1 tt (short, stays ∙ same)

-- it goes on with the list that it had
pub made_grows : (old new : State) (session nth : ℕ) (who : Uic) (r : Request) (result : Result Answer Refusal) (told : List Entry) → IsSubmitted old session nth who r result new → told ≡ new.entries → Begins old.entries told
made_grows old new session nth who r result told made is =
    let b = grows old new (entry_of session nth who r) result made.accepted made.unchanged in
    (b.0, is ∙ b.1)
