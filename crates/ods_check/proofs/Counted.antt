-- Numbers that are counted once each.
use Rattle.std.proofs.Common.{◌≡◌, ◌≢◌, ◌⊎◌, ℕ, ◌+◌, ◌<◌, ◌≤◌, true, false, List, [], ◌∷◌, ◌++◌, length, slice_get, Some, inl, inr, refl, sym, ap, ◌∙◌, subst, arith}
use Rattle.std.specs.Prelude.{slice_index, slice_set}
use Rattle.std.proofs.lemmas.Bool.{cases_lt, cases_eq}
use Rattle.std.proofs.lemmas.List.{length-append, length-set, get_or-set_same, get_or-set_other}
use Rattle.std.proofs.lemmas.Option.{slice_get_within}
use Rattle.ods_space.proofs.Surveys.{slice_get-append_left, slice_get-append_right}
use Rattle.ods_mount.specs.Tables.{has}
use Rattle.ods_check.specs.Lists.{AreDistinct}
use Rattle.ods_check.specs.Marks.{AreBoth, IsCounted}

-- Of the first i numbers those that are in the set are counted, each once, and have the stamp.
pub record IsCounting (xs set : List ℕ) (stamp i : ℕ) (counted : List ℕ) (count : ℕ) : Type 0 where
  pub ys : List ℕ
  pub size : count ≡ length ys
  pub few : count ≤ i
  pub each : (k b : ℕ) → slice_get ys k ≡ Some b → (j : ℕ) × (slice_get xs j ≡ Some b) × (has set b ≡ true)
  pub all : (j b : ℕ) → j < i → slice_get xs j ≡ Some b → has set b ≡ true → (k : ℕ) × (slice_get ys k ≡ Some b)
  pub once : AreDistinct ys
  pub stamped : (k b : ℕ) → slice_get ys k ≡ Some b → slice_index counted b ≡ stamp
  pub only : (b : ℕ) → slice_index counted b ≡ stamp → (k : ℕ) × (slice_get ys k ≡ Some b)
  pub low : (b : ℕ) → slice_index counted b ≤ stamp

-- what a list with one element more has
pub last_or : (ys : List ℕ) (b k c : ℕ) → slice_get (ys ++ b ∷ []) k ≡ Some c → (slice_get ys k ≡ Some c) ⊎ ((k ≡ length ys) × (c ≡ b))
last_or ys b k c at =
    let size = length-append ys (b ∷ []) in
    let within = slice_get_within (ys ++ b ∷ []) k c at in
    elim (cases_lt k (length ys)) [
      | inl less ↦ inl (sym (slice_get-append_left ys (b ∷ []) k less) ∙ at)
      | inr more ↦
          let e : k ≡ length ys + 0 = omega arith in
          let here : Some c ≡ Some b = sym at ∙ ap (slice_get (ys ++ b ∷ [])) e ∙ slice_get-append_right ys (b ∷ []) 0 in
          inr (omega arith, cc)
    ]

last_at : (ys : List ℕ) (b : ℕ) → slice_get (ys ++ b ∷ []) (length ys) ≡ Some b
last_at ys b = let e : length ys ≡ length ys + 0 = omega arith in ap (slice_get (ys ++ b ∷ [])) e ∙ slice_get-append_right ys (b ∷ []) 0

still_at : (ys : List ℕ) (b k c : ℕ) → slice_get ys k ≡ Some c → slice_get (ys ++ b ∷ []) k ≡ Some c
still_at ys b k c at = slice_get-append_left ys (b ∷ []) k (slice_get_within ys k c at) ∙ at

module _ (xs set : List ℕ) (stamp i b : ℕ) (old new : List ℕ) (count : ℕ) (w : IsCounting xs set stamp i old count) (at : slice_get xs i ≡ Some b) where
  here : (j c : ℕ) → j ≡ i → slice_get xs j ≡ Some c → c ≡ b
  here j c e at_j = let same : Some c ≡ Some b = sym at_j ∙ ap (slice_get xs) e ∙ at in cc

  pub counting_same : new ≡ old → (has set b ≡ false) ⊎ (slice_index old b ≡ stamp) → IsCounting xs set stamp (i + 1) new (count + 0)
  counting_same same why =
      let few = w.few in
      let P : List ℕ → Type 0 = λ l. IsCounting xs set stamp (i + 1) l (count + 0) in
      subst P (sym same) record {
        ys = w.ys;
        size = (let e : count + 0 ≡ count = omega arith in e ∙ w.size);
        few = omega arith;
        each = w.each;
        all = λ j c less at_j there. elim (cases_lt j i) [
          | inl low ↦ w.all j c low at_j there
          | inr more ↦
              let is : c ≡ b = here j c (omega arith) at_j in
              elim why [
                | inl absent ↦ absurd (let clash : true ≡ false = sym there ∙ ap (has set) is ∙ absent in cc)
                | inr stamp_b ↦ w.only c (ap (slice_index old) is ∙ stamp_b)
              ]
        ];
        once = w.once;
        stamped = w.stamped;
        only = w.only;
        low = w.low;
      }

  pub counting_more : b < length old → new ≡ slice_set old b stamp → has set b ≡ true → slice_index old b ≢ stamp → IsCounting xs set stamp (i + 1) new (count + 1)
  counting_more within is there fresh =
      let few = w.few in
      let same : slice_index new b ≡ stamp = ap (λ l. slice_index l b) is ∙ get_or-set_same old b stamp 0 within in
      let other : (c : ℕ) → c ≢ b → slice_index new c ≡ slice_index old c = λ c apart. ap (λ l. slice_index l c) is ∙ get_or-set_other old b c stamp 0 apart in
      let absent : (k : ℕ) → ¬ (slice_get w.ys k ≡ Some b) = λ k at_k. fresh (w.stamped k b at_k) in
      let ys = w.ys ++ b ∷ [] in
      let size = length-append w.ys (b ∷ []) in
      let count_is = w.size in
      record {
        ys = ys;
        size = omega arith;
        few = omega arith;
        each = λ k c at_k. elim (last_or w.ys b k c at_k) [
          | inl was ↦ w.each k c was
          | inr (e, f) ↦
              let P : ℕ → Type 0 = λ y. (j : ℕ) × (slice_get xs j ≡ Some y) × (has set y ≡ true) in
              subst P (sym f) (i, at, there)
        ];
        all = λ j c less at_j there_c. elim (cases_lt j i) [
          | inl low ↦ let was = w.all j c low at_j there_c in (was.0, still_at w.ys b was.0 c was.1)
          | inr more ↦
              let f : c ≡ b = here j c (omega arith) at_j in
              (length w.ys, last_at w.ys b ∙ ap Some (sym f))
        ];
        once = λ k l c at_k at_l. elim (last_or w.ys b k c at_k) [
          | inl was ↦ elim (last_or w.ys b l c at_l) [
            | inl too ↦ w.once k l c was too
            | inr (e, f) ↦ absurd (absent k (was ∙ ap Some f))
          ]
          | inr (e, f) ↦ elim (last_or w.ys b l c at_l) [
            | inl too ↦ absurd (absent l (too ∙ ap Some f))
            | inr (g, h) ↦ e ∙ sym g
          ]
        ];
        stamped = λ k c at_k. elim (last_or w.ys b k c at_k) [
          | inl was ↦ other c (λ e. absent k (was ∙ ap Some e)) ∙ w.stamped k c was
          | inr (e, f) ↦ ap (slice_index new) f ∙ same
        ];
        only = λ c stamp_c. elim (cases_eq c b) [
          | inl e ↦ (length w.ys, last_at w.ys b ∙ ap Some (sym e))
          | inr apart ↦ let was = w.only c (sym (other c apart) ∙ stamp_c) in (was.0, still_at w.ys b was.0 c was.1)
        ];
        low = λ c. elim (cases_eq c b) [
          | inl e ↦ let s : slice_index new c ≡ stamp = ap (slice_index new) e ∙ same in omega arith
          | inr apart ↦ let s = other c apart in let l = w.low c in omega arith
        ];
      }

-- one number more, counted or not
pub counting_step : (xs set : List ℕ) (stamp i b : ℕ) (old new : List ℕ) (count c : ℕ) → IsCounting xs set stamp i old count → slice_get xs i ≡ Some b → b < length old → IsCounted set b stamp old c new → IsCounting xs set stamp (i + 1) new (count + c)
counting_step xs set stamp i b old new count c w at within (inl (none, same, why)) =
    let P : ℕ → Type 0 = λ n. IsCounting xs set stamp (i + 1) new (count + n) in
    subst P (sym none) (counting_same xs set stamp i b old new count w at same why)
counting_step xs set stamp i b old new count c w at within (inr (one, is, there, fresh)) =
    let P : ℕ → Type 0 = λ n. IsCounting xs set stamp (i + 1) new (count + n) in
    subst P (sym one) (counting_more xs set stamp i b old new count w at within is there fresh)

-- no place is added
pub counted_size : (set : List ℕ) (b stamp : ℕ) (old new : List ℕ) (c : ℕ) → IsCounted set b stamp old c new → length new ≡ length old
counted_size set b stamp old new c (inl (none, same, why)) = ap length same
counted_size set b stamp old new c (inr (one, is, there, fresh)) = ap length is ∙ length-set old b stamp

-- all are counted
pub counting_all : (xs set : List ℕ) (stamp i : ℕ) (counted : List ℕ) (count : ℕ) → length xs ≤ i → IsCounting xs set stamp i counted count → (ys : List ℕ) × (count ≡ length ys) × AreBoth xs set ys
counting_all xs set stamp i counted count end w = (
  w.ys,
  w.size,
  record {
    each = w.each;
    all = λ j b at there. w.all j b (let within = slice_get_within xs j b at in omega arith) at there;
    once = w.once;
  },
)
