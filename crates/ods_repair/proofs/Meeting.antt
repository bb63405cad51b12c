-- Blocks that are looked up in a set, and put into it, one behind another.
use Rattle.std.proofs.Common.{◌≡◌, ◌≢◌, ℕ, ◌+◌, ◌<◌, ◌≤◌, refl, ap, sym, ◌∙◌, subst, Bool, true, false, List, arith, inl, inr}
use Rattle.std.specs.Prelude.{◌⊎◌, ◌↔◌, MatchBool, slice_get, Some}
use Rattle.std.proofs.lemmas.Bool.{cases_eq, cases_lt}
use Rattle.std.proofs.lemmas.Option.{same_Some}
use Rattle.ods_mount.specs.Tables.{IsWith, has}
use Rattle.ods_repair.specs.Settled.{AreNewFrom, MeetsFrom}

-- the blocks from `first` on and before i are looked up: the set is `old` with them
pub record AreMet (blocks : List ℕ) (first i : ℕ) (old set : List ℕ) (met : ℕ) : Type 0 where
  pub noted : (b : ℕ) → (has set b ≡ true) ↔ ((has old b ≡ true) ⊎ ((j : ℕ) × (first ≤ j) × (j < i) × (slice_get blocks j ≡ Some b)))
  pub none : met ≡ 0 → (k b : ℕ) → first ≤ k → k < i → slice_get blocks k ≡ Some b → (has old b ≡ false) × ((j : ℕ) → first ≤ j → j < i → slice_get blocks j ≡ Some b → k ≡ j)
  pub some : met ≢ 0 → MeetsFrom blocks first old

pub none_met : (blocks : List ℕ) (first i : ℕ) (old : List ℕ) → i ≤ first → AreMet blocks first i old old 0
none_met blocks first i old none = record {
  noted = λ b. ((λ h. inl h), (λ h. elim h [ inl was ↦ was | inr (j, low, high, e) ↦ absurd (omega (arith, low, high, none)) ]));
  none = λ zero k b low high e. absurd (omega (arith, low, high, none));
  some = λ some. absurd (some refl);
}

module _ (blocks : List ℕ) (first i b : ℕ) (old set new : List ℕ) (met next : ℕ) (from : first ≤ i) (here : slice_get blocks i ≡ Some b) (before : AreMet blocks first i old set met)
    (told : MatchBool (has set b) (next ≢ 0) (next ≡ met)) (with_b : IsWith new set b) where
  by_case : (has set b ≡ true) × (next ≢ 0) ⊎ ((has set b ≡ false) × (next ≡ met))
  by_case = by (has set b) refl told
    where
      by : (t : Bool) → has set b ≡ t → MatchBool t (next ≢ 0) (next ≡ met) → (has set b ≡ true) × (next ≢ 0) ⊎ ((has set b ≡ false) × (next ≡ met))
      by true e h = inl (e, h)
      by false e h = inr (e, h)

  noted_more : (c : ℕ) → (has new c ≡ true) ↔ ((has old c ≡ true) ⊎ ((j : ℕ) × (first ≤ j) × (j < i + 1) × (slice_get blocks j ≡ Some c)))
  noted_more c = (to, back)
    where
      to : has new c ≡ true → (has old c ≡ true) ⊎ ((j : ℕ) × (first ≤ j) × (j < i + 1) × (slice_get blocks j ≡ Some c))
      to h = elim (cases_eq c b) [
        | inl same ↦ inr (i, from, omega arith, here ∙ ap Some (sym same))
        | inr other ↦ elim ((before.noted c).0 (sym (with_b.1 c other) ∙ h)) [
          | inl was ↦ inl was
          | inr (j, low, high, e) ↦ inr (j, low, omega (arith, high), e)
        ]
      ]

      back : (has old c ≡ true) ⊎ ((j : ℕ) × (first ≤ j) × (j < i + 1) × (slice_get blocks j ≡ Some c)) → has new c ≡ true
      back h = elim (cases_eq c b) [
        | inl same ↦ subst (λ x. has new x ≡ true) (sym same) with_b.0
        | inr other ↦ with_b.1 c other ∙ (before.noted c).1 (elim h [
          | inl was ↦ inl was
          | inr (j, low, high, e) ↦ elim (cases_lt j i) [
            | inl less ↦ inr (j, low, less, e)
            | inr more ↦ absurd (let is : j ≡ i = omega (arith, high, more) in other (same_Some c b (sym e ∙ ap (slice_get blocks) is ∙ here)))
          ]
        ])
      ]

  pub one_met : AreMet blocks first (i + 1) old new next
  one_met = record {
    noted = noted_more;
    none = λ zero k c low high e. elim by_case [
      | inl (there, some) ↦ absurd (some zero)
      | inr (absent, same) ↦ none_more absent (sym same ∙ zero) k c low high e
    ];
    some = λ some. elim by_case [
      | inl (there, more) ↦ elim ((before.noted b).0 there) [
        | inl was ↦ (i, b, from, here, inl was)
        | inr early ↦ (i, b, from, here, inr early)
      ]
      | inr (absent, same) ↦ before.some (λ zero. some (same ∙ zero))
    ];
  }
    where
      none_more : has set b ≡ false → met ≡ 0 → (k c : ℕ) → first ≤ k → k < i + 1 → slice_get blocks k ≡ Some c → (has old c ≡ false) × ((j : ℕ) → first ≤ j → j < i + 1 → slice_get blocks j ≡ Some c → k ≡ j)
      none_more absent zero k c low high e = elim (cases_lt k i) [
        | inl less ↦
            let was = before.none zero k c low less e in (
              was.0,
              λ j from_first below f. elim (cases_lt j i) [
                | inl early ↦ was.1 j from_first early f
                | inr late ↦
                    let is : j ≡ i = omega (arith, below, late) in
                    let same : c ≡ b = same_Some c b (sym f ∙ ap (slice_get blocks) is ∙ here) in
                    absurd (let there : has set b ≡ true = (before.noted b).1 (inr (k, low, less, e ∙ ap Some same)) in let clash : true ≡ false = sym there ∙ absent in cc)
              ],
            )
        | inr more ↦
            let k_is : k ≡ i = omega (arith, high, more) in
            let same : c ≡ b = same_Some c b (sym e ∙ ap (slice_get blocks) k_is ∙ here) in (
              old_absent c same,
              λ j from_first below f. elim (cases_lt j i) [
                | inl early ↦ absurd (let there : has set b ≡ true = (before.noted b).1 (inr (j, from_first, early, f ∙ ap Some same)) in let clash : true ≡ false = sym there ∙ absent in cc)
                | inr late ↦ omega (arith, k_is, below, late)
              ],
            )
      ]
        where
          old_absent : (x : ℕ) → x ≡ b → has old x ≡ false
          old_absent x same = by (has old x) refl
            where
              by : (t : Bool) → has old x ≡ t → has old x ≡ false
              by false f = f
              by true f = absurd (let there : has set b ≡ true = (before.noted b).1 (inl (subst (λ y. has old y ≡ true) same f)) in let clash : true ≡ false = sym there ∙ absent in cc)

pub all_new : (blocks : List ℕ) (first i : ℕ) (old set : List ℕ) (met : ℕ) → ((k b : ℕ) → slice_get blocks k ≡ Some b → k < i) → AreMet blocks first i old set met → met ≡ 0 → AreNewFrom blocks first old
all_new blocks first i old set met inside m zero k b low e =
    let one = m.none zero k b low (inside k b e) e in
    (one.0, λ j from f. one.1 j from (inside j b f) f)
