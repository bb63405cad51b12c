-- Lines of blocks, each told once, by stamps.
use Rattle.std.proofs.Common.{Bool, true, false, cond, inl, inr, ◌≡◌, ◌≢◌, ℕ, ◌+◌, ◌<◌, ◌≤◌, arith, length, List, [], ◌∷◌, ◌++◌, refl, sym, ap, ◌∙◌, subst, append_assoc}
use Rattle.std.specs.Prelude.{slice_index, slice_set}
use Rattle.std.specs.List.{All, Contains}
use Rattle.std.proofs.lemmas.Bool.{cases_eq}
use Rattle.std.proofs.lemmas.List.{append-nil, length-set, get_or-set_same, get_or-set_other}
use Rattle.std.proofs.lemmas.List.Elements.{All-nil, All-cons, All-append, Contains-append_left, Contains-push}
use Rattle.ods_check.specs.Lists.{AreDistinct, AddsInTurn}
use Rattle.ods_check.specs.Marks.{PutsStamp}
use Rattle.ods_check.proofs.Turning.{distinct_nil, distinct_one, distinct_append, at_place}

-- where a stamp was put it holds
pub put_holds : (b : ℕ) (holds : Bool) (stamp : ℕ) (old new : List ℕ) (put : Bool) → PutsStamp b holds stamp old put new → put ≡ true → holds ≡ true
put_holds b holds stamp old new put (inl (none, same, why)) is_put = absurd (let clash : true ≡ false = sym is_put ∙ none in cc)
put_holds b holds stamp old new put (inr (one, is, there, fresh)) is_put = there

-- where it holds there is the stamp then
pub put_there : (b : ℕ) (holds : Bool) (stamp : ℕ) (old new : List ℕ) (put : Bool) → b < length old → PutsStamp b holds stamp old put new → holds ≡ true → slice_index new b ≡ stamp
put_there b holds stamp old new put within (inl (none, same, inl absent)) held = absurd (let clash : true ≡ false = sym held ∙ absent in cc)
put_there b holds stamp old new put within (inl (none, same, inr there)) held = ap (λ l. slice_index l b) same ∙ there
put_there b holds stamp old new put within (inr (one, is, there, fresh)) held = ap (λ l. slice_index l b) is ∙ get_or-set_same old b stamp 0 within

put_size : (b : ℕ) (holds : Bool) (stamp : ℕ) (old new : List ℕ) (put : Bool) → PutsStamp b holds stamp old put new → length new ≡ length old
put_size b holds stamp old new put (inl (none, same, why)) = ap length same
put_size b holds stamp old new put (inr (one, is, there, fresh)) = ap length is ∙ length-set old b stamp

-- The lines that were added are those of the blocks with this stamp, each once, and no stamp is above it.
pub record AreStamped {X : Type 0} (line : ℕ → X) (stamp : ℕ) (size : ℕ) (old new : List X × ℕ) (stamps : List ℕ) : Type 0 where
  pub more : List X
  pub is : new ≡ (old.0 ++ more, old.1)
  pub each : All (λ x. (b : ℕ) × (x ≡ line b) × (slice_index stamps b ≡ stamp)) more
  pub once : AreDistinct more
  pub told : (b : ℕ) → slice_index stamps b ≡ stamp → Contains new.0 (line b)
  pub low : (b : ℕ) → slice_index stamps b ≤ stamp
  pub len : length stamps ≡ size

module _ {X : Type 0} (line : ℕ → X) (stamp size : ℕ) where
  pub stamped_none : (xs : List X × ℕ) (stamps : List ℕ) → ((b : ℕ) → slice_index stamps b < stamp) → length stamps ≡ size → AreStamped line stamp size xs xs stamps
  stamped_none xs stamps low len = record {
    more = [];
    is = ap (λ l. (l, xs.1)) (sym (append-nil xs.0));
    each = All-nil _;
    once = distinct_nil;
    told = λ b there. absurd (let below = low b in omega arith);
    low = λ b. let below = low b in omega arith;
    len = len;
  }

  -- one block more, which has a line where its stamp is put
  module _ (same : (b c : ℕ) → line b ≡ line c → b ≡ c) (start mid new : List X × ℕ) (b : ℕ) (old stamps : List ℕ) (within : b < length old) (s : AreStamped line stamp size start mid old) where
    stamped_put : new ≡ (mid.0 ++ line b ∷ [], mid.1) → stamps ≡ slice_set old b stamp → slice_index old b ≢ stamp → AreStamped line stamp size start new stamps
    stamped_put is set fresh =
        let here : slice_index stamps b ≡ stamp = ap (λ l. slice_index l b) set ∙ get_or-set_same old b stamp 0 within in
        let other : (c : ℕ) → c ≢ b → slice_index stamps c ≡ slice_index old c = λ c apart. ap (λ l. slice_index l c) set ∙ get_or-set_other old b c stamp 0 apart in
        let still : (c : ℕ) → slice_index old c ≡ stamp → slice_index stamps c ≡ stamp = λ c there. elim (cases_eq c b) [
          | inl e ↦ ap (slice_index stamps) e ∙ here
          | inr apart ↦ other c apart ∙ there
        ] in
        let P : X → Type 0 = λ x. (c : ℕ) × (x ≡ line c) × (slice_index stamps c ≡ stamp) in
        let Q : X → Type 0 = λ x. (c : ℕ) × (x ≡ line c) × (slice_index old c ≡ stamp) in
        record {
          more = s.more ++ line b ∷ [];
          is = is ∙ ap (λ l. (l.0 ++ line b ∷ [], l.1)) s.is ∙ ap (λ l. (l, start.1)) (append_assoc start.0 s.more (line b ∷ []));
          each = All-append P s.more (line b ∷ []) (λ k x low. let was = s.each k x low in (was.0, was.1, still was.0 was.2)) (All-cons P (line b) [] (b, refl, here) (All-nil P));
          once = distinct_append s.more (line b ∷ []) s.once (distinct_one (line b)) (λ i j x at also.
              let was : Q x = at_place Q s.more i x s.each at in
              let R : X → Type 0 = λ y. y ≡ line b in
              let one : x ≡ line b = at_place R (line b ∷ []) j x (All-cons R (line b) [] refl (All-nil R)) also in
              let e : was.0 ≡ b = same was.0 b (sym was.1 ∙ one) in
              fresh (ap (slice_index old) (sym e) ∙ was.2));
          told = λ c there. elim (cases_eq c b) [
            | inl e ↦ subst (λ l. Contains l (line c)) (sym (ap (λ l. l.0) is)) (subst (λ k. Contains (mid.0 ++ line b ∷ []) (line k)) (sym e) (Contains-push mid.0 (line b)))
            | inr apart ↦ subst (λ l. Contains l (line c)) (sym (ap (λ l. l.0) is)) (Contains-append_left mid.0 (line b ∷ []) (line c) (s.told c (sym (other c apart) ∙ there)))
          ];
          low = λ c. elim (cases_eq c b) [
            | inl e ↦ let at : slice_index stamps c ≡ stamp = ap (slice_index stamps) e ∙ here in omega arith
            | inr apart ↦ let at = other c apart in let was = s.low c in omega arith
          ];
          len = ap length set ∙ length-set old b stamp ∙ s.len;
        }

    pub stamped_step : (holds put : Bool) → PutsStamp b holds stamp old put stamps → new ≡ cond put (mid.0 ++ line b ∷ [], mid.1) mid → AreStamped line stamp size start new stamps
    stamped_step holds put (inl (none, stays, why)) is =
        let e : new ≡ mid = is ∙ ap (λ t. cond t (mid.0 ++ line b ∷ [], mid.1) mid) none in
        let P : List X × ℕ → Type 0 = λ l. AreStamped line stamp size start l stamps in
        let Q : List ℕ → Type 0 = λ l. AreStamped line stamp size start mid l in
        subst P (sym e) (subst Q (sym stays) s)
    stamped_step holds put (inr (one, set, there, fresh)) is = stamped_put (is ∙ ap (λ t. cond t (mid.0 ++ line b ∷ [], mid.1) mid) one) set fresh

  -- lines of one turn
  pub stamped_turn : (turn : X → ℕ) (a b : ℕ) (old new : List X × ℕ) (stamps : List ℕ) → ((c : ℕ) → turn (line c) ≡ a) → a < b → AreStamped line stamp size old new stamps → AddsInTurn turn a b old new
  stamped_turn turn a b old new stamps at later s = record {
    more = s.more;
    is = s.is;
    turns = λ k x within. (let was = s.each k x within in let e = ap turn was.1 ∙ at was.0 in (omega arith, omega arith));
    once = s.once;
  }
