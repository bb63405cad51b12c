-- Sets of numbers, one bit each, and how numbers are noted in one.
use Rattle.std.proofs.Common.{◌≡◌, ◌≢◌, ℕ, ◌+◌, ◌*◌, ◌/◌, ◌%◌, ◌^◌, ◌<◌, ◌⊎◌, Bool, true, false, nat_eq, List, length, slice_get, Some, inl, inr, refl, sym, ap, ◌∙◌, subst, arith}
use Rattle.std.specs.Prelude.{bit_or, slice_index, slice_set}
use Rattle.std.specs.Int.{bit_at, w64}
use Rattle.std.proofs.lemmas.Bool.{cases_lt, cases_eq}
use Rattle.std.proofs.lemmas.List.{get_or-set_same, get_or-set_other}
use Rattle.std.proofs.lemmas.Nat.Bits.{bit_at_set_same, bit_at_set_other}
use Rattle.ods_mount.specs.Tables.{has, IsWith, IsNoted, IsThere}

-- a bit that is set puts its number into the set
pub set_bit : (words : List ℕ) (b : ℕ) → b / 64 < length words → IsWith (slice_set words (b / 64) (bit_or (slice_index words (b / 64)) (1 * 2 ^ (b % 64) % 2 ^ 64))) words b
set_bit words b within =
    let word : ℕ = bit_or (slice_index words (b / 64)) (1 * 2 ^ (b % 64) % 2 ^ 64) in (
      ap (λ w. nat_eq (bit_at w (b % 64)) 1) (get_or-set_same words (b / 64) word 0 within) ∙ ap (λ x. nat_eq x 1) (bit_at_set_same w64 (slice_index words (b / 64)) (b % 64) (omega arith)),
      λ c other. elim (cases_eq (c / 64) (b / 64)) [
        | inl e ↦
            let apart : c % 64 ≢ b % 64 = λ p. other (omega arith) in
            let here : slice_index (slice_set words (b / 64) word) (c / 64) ≡ word = ap (slice_index (slice_set words (b / 64) word)) e ∙ get_or-set_same words (b / 64) word 0 within in
            ap (λ w. nat_eq (bit_at w (c % 64)) 1) here ∙ ap (λ x. nat_eq x 1) (bit_at_set_other w64 (slice_index words (b / 64)) (b % 64) (omega arith) (c % 64) apart)
            ∙ ap (λ w. nat_eq (bit_at w (c % 64)) 1) (ap (slice_index words) (sym e))
        | inr apart ↦ ap (λ w. nat_eq (bit_at w (c % 64)) 1) (get_or-set_other words (b / 64) (c / 64) word 0 apart)
      ],
    )

-- nothing is noted so far
pub noted_first : (set xs : List ℕ) → IsNoted set set xs 0
noted_first set xs = record {
  stays = λ b member. member;
  some = λ j b low. absurd (omega arith);
  only = λ b member. inl member;
  apart = λ j b low. absurd (omega arith);
  distinct = λ j k b low. absurd (omega arith);
}

-- one number more, which was not there
module _ (start xs : List ℕ) (i b : ℕ) (old new : List ℕ) (t : IsNoted start old xs i) (at : slice_get xs i ≡ Some b) (absent : has old b ≡ false) (with_b : IsWith new old b) where
  still : (c : ℕ) → has old c ≡ true → has new c ≡ true
  still c member = elim (cases_eq c b) [
    | inl e ↦ let P : ℕ → Type 0 = λ y. has new y ≡ true in subst P (sym e) with_b.0
    | inr other ↦ with_b.1 c other ∙ member
  ]

  not_b : (c : ℕ) → has old c ≡ true → c ≢ b
  not_b c member e =
      let P : ℕ → Type 0 = λ y. has old y ≡ true in
      let clash : true ≡ false = sym (subst P e member) ∙ absent in
      cc

  last_or : (j c : ℕ) → j < i + 1 → slice_get xs j ≡ Some c → (j < i) ⊎ ((j ≡ i) × (c ≡ b))
  last_or j c low at_j = elim (cases_lt j i) [
    | inl less ↦ inl less
    | inr more ↦
        let e : j ≡ i = omega arith in
        let same : Some c ≡ Some b = sym at_j ∙ ap (slice_get xs) e ∙ at in
        inr (e, cc)
  ]

  fresh : (c : ℕ) → c ≡ b → has start c ≡ false
  fresh c e = by (has start c) refl
    where
      by : (u : Bool) → has start c ≡ u → u ≡ false
      by true member = absurd (not_b c (t.stays c member) e)
      by false out = refl

  pub noted_more : IsNoted start new xs (i + 1)
  noted_more = record {
    stays = λ c member. still c (t.stays c member);
    some = λ j c low at_j. elim (last_or j c low at_j) [
      | inl less ↦ still c (t.some j c less at_j)
      | inr last ↦ let P : ℕ → Type 0 = λ y. has new y ≡ true in subst P (sym last.1) with_b.0
    ];
    only = λ c member. elim (cases_eq c b) [
      | inl e ↦ let last : slice_get xs i ≡ Some c = at ∙ ap Some (sym e) in inr (i, omega arith, last)
      | inr other ↦ elim (t.only c (sym (with_b.1 c other) ∙ member)) [
        | inl o ↦ inl o
        | inr (j, low, at_j) ↦ inr (j, omega arith, at_j)
      ]
    ];
    apart = λ j c low at_j. elim (last_or j c low at_j) [
      | inl less ↦ t.apart j c less at_j
      | inr last ↦ fresh c last.1
    ];
    distinct = λ j k c low high at_j at_k. elim (last_or j c low at_j) [
      | inl less ↦ elim (last_or k c high at_k) [
        | inl below ↦ t.distinct j k c less below at_j at_k
        | inr last ↦ absurd (not_b c (t.some j c less at_j) last.1)
      ]
      | inr last ↦ elim (last_or k c high at_k) [
        | inl below ↦ absurd (not_b c (t.some k c below at_k) last.1)
        | inr both ↦ last.0 ∙ sym both.0
      ]
    ];
  }

-- a number that is there already
pub noted_there : (start old xs : List ℕ) (i b : ℕ) → IsNoted start old xs i → slice_get xs i ≡ Some b → has old b ≡ true → IsThere start xs b
noted_there start old xs i b t at member = record { index = i; named = at; there = t.only b member }
