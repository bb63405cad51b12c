-- The bits of a word that is read from eight bytes of a block.
use Rattle.std.proofs.Common.{◌≡◌, ℕ, zero, suc, ◌+◌, ◌-◌, ◌*◌, ◌/◌, ◌%◌, ◌^◌, ◌<◌, ◌≤◌, nat_eq, List, length, take, drop, refl, sym, ap, ◌∙◌, arith, inl, inr}
use Rattle.std.specs.Prelude.{slice_index}
use Rattle.std.specs.Int.{bit_at, byte_worth, sum_through}
use Rattle.std.proofs.Math.Nat.{pow-suc}
use Rattle.std.proofs.lemmas.Bool.{cases_lt}
use Rattle.std.proofs.lemmas.List.{get_or-take, get_or-drop, get_or_past, length-take}
use Rattle.std.proofs.lemmas.Nat.{pow-add, mul-add-lt}
use Rattle.std.proofs.lemmas.Nat.Bits.{bit_at_cat_low, bit_at_cat_high}
use borrow.Rule.Slice.PartMut.{mid_of}
use Rattle.ods_base.specs.Block.{IsBlock, has_bit}

pow256 : (k : ℕ) → 256 ^ k ≡ 2 ^ (8 * k)
pow256 zero = refl
pow256 (suc k) =
    let place : 8 * suc k ≡ 8 * k + 8 = omega arith in
    pow-suc 256 k ∙ ap (λ n. n * 256) (pow256 k) ∙ sym (pow-add 2 (8 * k) 8) ∙ ap (λ n. 2 ^ n) (sym place)

-- the number whose bytes are these, the lowest first
abbrev low_first : (ℕ → ℕ) → ℕ → ℕ
low_first B k = sum_through (λ i. byte_worth i (B i)) k

module _ (B : ℕ → ℕ) (small : (i : ℕ) → B i < 256) where
  one_more : (k : ℕ) → low_first B (suc k) ≡ B (suc k) * 2 ^ (8 * suc k) + low_first B k
  one_more k =
      let top : B (suc k) * 256 ^ suc k ≡ B (suc k) * 2 ^ (8 * suc k) = ap (λ n. B (suc k) * n) (pow256 (suc k)) in
      omega (arith, top)

  below : (k : ℕ) → low_first B k < 2 ^ (8 * suc k)
  below zero = small 0
  below (suc k) =
      let m : ℕ = 8 * suc k in
      let place : 8 * suc (suc k) ≡ m + 8 = omega arith in
      rw (place, pow-add 2 m 8, one_more k) (mul-add-lt (B (suc k)) (2 ^ m) (low_first B k) 256 (small (suc k)) (below k))

  pub bit_of_bytes : (k i : ℕ) → i < 8 * suc k → bit_at (low_first B k) i ≡ bit_at (B (i / 8)) (i % 8)
  bit_of_bytes zero i within =
      let first : i / 8 ≡ 0 = omega arith in
      let place : i % 8 ≡ i = omega arith in
      rw (first, place) refl
  bit_of_bytes (suc k) i within = elim (cases_lt i (8 * suc k)) [
    | inl low ↦ ap (λ n. bit_at n i) (one_more k) ∙ bit_at_cat_low (B (suc k)) (8 * suc k) (low_first B k) i low ∙ bit_of_bytes k i low
    | inr high ↦
        let byte : i / 8 ≡ suc k = omega arith in
        let place : i % 8 ≡ i - 8 * suc k = omega arith in
        ap (λ n. bit_at n i) (one_more k) ∙ bit_at_cat_high (B (suc k)) (8 * suc k) (low_first B k) i (below k) high ∙ rw (byte, place) refl
  ]

mid_byte : (b : List ℕ) (at n i : ℕ) → i < n → slice_index (mid_of at n b) i ≡ slice_index b (at + i)
mid_byte b at n i within = get_or-take n (drop at b) i 0 within ∙ get_or-drop at b i 0

mid_small : (b : List ℕ) (at n i : ℕ) → ((j : ℕ) → slice_index b j < 256) → slice_index (mid_of at n b) i < 256
mid_small b at n i small = elim (cases_lt i n) [
  | inl within ↦ rw (mid_byte b at n i within) (small (at + i))
  | inr past ↦
      let behind : length (take n (drop at b)) ≤ i = simp length-take (omega arith) in
      rw (get_or_past (take n (drop at b)) i 0 behind) (omega arith)
]

-- the bits of a word that is read from eight bytes of a block
pub word_bit : (b bs : List ℕ) (w k n i : ℕ) → IsBlock b → n ≡ 8 → bs ≡ mid_of (8 * k) n b → w ≡ low_first (λ j. slice_index bs j) 7 → i < 64 → nat_eq (bit_at w i) 1 ≡ has_bit b (64 * k + i)
word_bit b bs w k n i block eight is value within =
    let B : ℕ → ℕ = λ j. slice_index bs j in
    let small : (j : ℕ) → B j < 256 = λ j. rw is (mid_small b (8 * k) n j block.bytes) in
    let at : slice_index bs (i / 8) ≡ slice_index b (8 * k + i / 8) = ap (λ l. slice_index l (i / 8)) is ∙ mid_byte b (8 * k) n (i / 8) (omega arith) in
    let byte_is : 8 * k + i / 8 ≡ (64 * k + i) / 8 = omega arith in
    let bit_is : i % 8 ≡ (64 * k + i) % 8 = omega arith in
    ap (λ x. nat_eq (bit_at x i) 1) value ∙ ap (λ x. nat_eq x 1) (bit_of_bytes B small 7 i (omega arith) ∙ ap (λ x. bit_at x (i % 8)) at)
    ∙ ap (λ x. nat_eq (bit_at (slice_index b x) (i % 8)) 1) byte_is ∙ ap (λ x. nat_eq (bit_at (slice_index b ((64 * k + i) / 8)) x) 1) bit_is
