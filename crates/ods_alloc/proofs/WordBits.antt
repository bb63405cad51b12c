-- The bits of words: cut, shifted and counted.
use Rattle.std.proofs.Common.{◌≡◌, ℕ, zero, suc, ◌+◌, ◌-◌, ◌*◌, ◌/◌, ◌%◌, ◌^◌, ◌<◌, Bool, true, false, cond, not, ◌&&◌, nat_eq, nat_lt, ◌∷◌, length, refl, sym, ap, ◌∙◌, arith, inl, inr}
use Rattle.std.specs.Prelude.{count_ones, bit_and}
use Rattle.std.specs.Int.{bit_at, trailing_zeros, bit_not, w64}
use Rattle.std.specs.List.{filter, range_with_len}
use Rattle.std.proofs.lemmas.Bool.{cases_lt, lt-ltb, le-ltb}
use Rattle.std.proofs.lemmas.Nat.{shr-shr, shr_le, ones_cat}
use lib.Count.{ones}
use Rattle.std.proofs.lemmas.Nat.Bits.{bit_at_lowest, bit_at-suc, bit_at-trailing_zeros, bit_at_above, bit_at-zero, bit_at_and, bit_at_ones, bit_at_ones_above, bit_at-lt, bit_at_not}
use Rattle.ods_base.specs.Bits.{IsWordOf}
use Rattle.ods_alloc.specs.Scan.{IsNext, NonePasses}

no_ones : count_ones 0 ≡ 0
unfolding ones
no_ones = refl

one_one : count_ones 1 ≡ 1
unfolding ones
one_one = refl

-- how many of n numbers pass, where the bits of a word say which
pub ones_is : (n w a : ℕ) (p : ℕ → Bool) → w < 2 ^ n → ((i : ℕ) → i < n → nat_eq (bit_at w i) 1 ≡ p (a + i)) → count_ones w ≡ length (filter p (range_with_len a n))
ones_is zero w a p few is = let none : w ≡ 0 = omega arith in ap count_ones none ∙ no_ones
ones_is (suc n) w a p few is =
    let halves : w ≡ w / 2 * 2 ^ 1 + w % 2 = omega arith in
    let split : count_ones w ≡ count_ones (w / 2) + count_ones (w % 2) = ap count_ones halves ∙ ones_cat 1 (w / 2) (w % 2) (omega arith) in
    let rest : count_ones (w / 2) ≡ length (filter p (range_with_len (a + 1) n)) = ones_is n (w / 2) (a + 1) p (omega arith) (λ i within.
    ap (λ b. nat_eq b 1) (sym (bit_at-suc w i)) ∙ is (suc i) (omega arith) ∙ ap p (omega arith)) in
    let first : nat_eq (w % 2) 1 ≡ p a = ap (λ b. nat_eq b 1) (sym (bit_at_lowest w)) ∙ is 0 (omega arith) ∙ ap p (omega arith) in
    by (w % 2) (omega arith) (p a) first split rest
  where
    by : (r : ℕ) → r < 2 → (t : Bool) → nat_eq r 1 ≡ t → count_ones w ≡ count_ones (w / 2) + count_ones r → count_ones (w / 2) ≡ length (filter p (range_with_len (a + 1) n))
        → count_ones w ≡ length (cond t (a ∷ filter p (range_with_len (a + 1) n)) (filter p (range_with_len (a + 1) n)))
    by zero small true e split rest = absurd (cc)
    by zero small false e split rest = omega (arith, split, rest, no_ones)
    by (suc zero) small true e split rest = omega (arith, split, rest, one_one)
    by (suc zero) small false e split rest = absurd (cc)
    by (suc (suc r)) small t e split rest = absurd (omega arith)

-- of the numbers from `at` on to the end of its word, none or this one passes first
module _ (p : ℕ → Bool) (at w : ℕ) (small : w < 2 ^ 64) (bits : IsWordOf (λ i. p (64 * (at / 64) + i)) w) where
  shifted : (i : ℕ) → bit_at (w / 2 ^ (at % 64)) i ≡ bit_at w (at % 64 + i)
  shifted i = ap (λ n. n % 2) (shr-shr w (at % 64) i)

  read : (i : ℕ) → at % 64 + i < 64 → nat_eq (bit_at (w / 2 ^ (at % 64)) i) 1 ≡ p (at + i)
  read i within =
      let place : 64 * (at / 64) + (at % 64 + i) ≡ at + i = omega arith in
      ap (λ b. nat_eq b 1) (shifted i) ∙ bits (at % 64 + i) within ∙ ap p place

  pub none_in_word : w / 2 ^ (at % 64) ≡ 0 → NonePasses p at (64 * (at / 64 + 1))
  none_in_word empty k above below =
      let place : at + (k - at) ≡ k = omega arith in
      sym (ap p place) ∙ sym (read (k - at) (omega arith)) ∙ ap (λ n. nat_eq (bit_at n (k - at)) 1) empty ∙ clear (k - at)
    where
      clear : (i : ℕ) → nat_eq (bit_at 0 i) 1 ≡ false
      clear i = ap (λ b. nat_eq b 1) (bit_at-zero i)

  pub next_in_word : 0 < w / 2 ^ (at % 64) → IsNext p at (at + trailing_zeros w64 (w / 2 ^ (at % 64)))
  next_in_word some =
      let s : ℕ = at % 64 in
      let x : ℕ = w / 2 ^ s in
      let found = bit_at-trailing_zeros w64 x some (let less = shr_le w s in omega arith) in
      let within : s + trailing_zeros w64 x < 64 = elim (cases_lt (s + trailing_zeros w64 x) 64) [
        | inl h ↦ h
        | inr h ↦ let clash : ◌≡◌ {A = ℕ} 1 0 = sym found.1 ∙ shifted (trailing_zeros w64 x) ∙ bit_at_above w 64 (s + trailing_zeros w64 x) small h in absurd (cc)
      ] in record {
        above = omega arith;
        passes = sym (read (trailing_zeros w64 x) within) ∙ ap (λ b. nat_eq b 1) found.1;
        least = λ k above under.
            let place : at + (k - at) ≡ k = omega arith in
            sym (ap p place) ∙ sym (read (k - at) (omega arith)) ∙ ap (λ b. nat_eq b 1) (found.2 (k - at) (omega arith));
      }

-- the low bits of a word
pub low_bit : (w count i : ℕ) → nat_eq (bit_at (bit_and w (2 ^ count - 1)) i) 1 ≡ (nat_lt i count && nat_eq (bit_at w i) 1)
low_bit w count i =
    let both = bit_at_and w (2 ^ count - 1) i in
    elim (cases_lt i count) [
      | inl low ↦
          let one = bit_at_ones count i low in
          let small = bit_at-lt w i in
          let same : bit_at (bit_and w (2 ^ count - 1)) i ≡ bit_at w i = omega (arith, both, one, small) in
          ap (λ b. nat_eq b 1) same ∙ sym (ap (λ t. t && nat_eq (bit_at w i) 1) (lt-ltb i count low))
      | inr high ↦
          let none = bit_at_ones_above count i high in
          let clear : bit_at (bit_and w (2 ^ count - 1)) i ≡ 0 = omega (arith, both, none) in
          ap (λ b. nat_eq b 1) clear ∙ sym (ap (λ t. t && nat_eq (bit_at w i) 1) (le-ltb i count high))
    ]

-- the bits of a word turned round
pub not_bits : (test : ℕ → Bool) (w : ℕ) → w < 2 ^ 64 → IsWordOf test w → IsWordOf (λ i. not (test i)) (bit_not w64 w)
not_bits test w small bits i within =
    let turned : bit_at (bit_not w64 w) i ≡ 1 - bit_at w i = bit_at_not w64 w i small within in
    ap (λ b. nat_eq b 1) turned ∙ by (bit_at w i) (bit_at-lt w i) ∙ ap not (bits i within)
  where
    by : (b : ℕ) → b < 2 → nat_eq (1 - b) 1 ≡ not (nat_eq b 1)
    by zero less = refl
    by (suc zero) less = refl
    by (suc (suc b)) less = absurd (omega arith)

-- a word of 0 says that none of its 64 passes
pub zero_word : (test : ℕ → Bool) (k w : ℕ) → w ≡ 0 → IsWordOf (λ i. test (64 * k + i)) w → NonePasses test (64 * k) (64 * (k + 1))
zero_word test k w none bits i above below =
    let place : 64 * k + (i - 64 * k) ≡ i = omega arith in
    sym (ap test place) ∙ sym (bits (i - 64 * k) (omega arith)) ∙ ap (λ n. nat_eq (bit_at n (i - 64 * k)) 1) none ∙ ap (λ b. nat_eq b 1) (bit_at-zero (i - 64 * k))
