-- Where blocks are marked as used, which blocks are free.
use Rattle.std.proofs.Common.{◌≡◌, ℕ, refl, ap, sym, ◌∙◌, subst, Bool, true, false, cond, ◌&&◌, IsTrue, List, length, inl, inr}
use Rattle.std.specs.Prelude.{nat_lt}
use Rattle.std.specs.List.{Contains}
use Rattle.ods_space.specs.Layout.{VolumeLayout}
use Rattle.ods_space.specs.Free.{is_covered, is_free_block, storage_bit}
use Rattle.ods_alloc.specs.Extend.{is_one_of}
use Rattle.ods_state.proofs.OnlyBookkeeping.{among_or_not}

-- both of two tests
first_of : (a b : Bool) → (a && b) ≡ true → a ≡ true
first_of true b e = refl
first_of false b e = absurd (cc e)

second_of : (a b : Bool) → (a && b) ≡ true → b ≡ true
second_of true b e = e
second_of false b e = absurd (cc e)

-- a free block has its bit set
pub bit_of_free : (I : List (List ℕ)) (L : VolumeLayout) (b : ℕ) → is_free_block I L b ≡ true → storage_bit I L b ≡ true
bit_of_free I L b f = second_of (is_covered L b) (storage_bit I L b) (second_of (nat_lt b (length I)) (is_covered L b && storage_bit I L b) f)

module _ (I J : List (List ℕ)) (L : VolumeLayout) (blocks : List ℕ) (long : length J ≡ length I)
    (bits : (b : ℕ) → IsTrue (is_covered L b) → storage_bit J L b ≡ cond (is_one_of blocks b) false (storage_bit I L b)) where
  -- a free block was free, and is none of these
  pub free_was : (b : ℕ) → is_free_block J L b ≡ true → (is_free_block I L b ≡ true) × ¬ Contains blocks b
  free_was b f =
      let inside : nat_lt b (length J) ≡ true = first_of (nat_lt b (length J)) (is_covered L b && storage_bit J L b) f in
      let rest : (is_covered L b && storage_bit J L b) ≡ true = second_of (nat_lt b (length J)) (is_covered L b && storage_bit J L b) f in
      let covered : is_covered L b ≡ true = first_of (is_covered L b) (storage_bit J L b) rest in
      let now : cond (is_one_of blocks b) false (storage_bit I L b) ≡ true = sym (bits b covered) ∙ second_of (is_covered L b) (storage_bit J L b) rest in
      elim (among_or_not blocks b) [
        | inl among ↦ absurd (let clash : false ≡ true = subst (λ o. cond o false (storage_bit I L b) ≡ true) among.0 now in cc)
        | inr other ↦
            let bit : storage_bit I L b ≡ true = subst (λ o. cond o false (storage_bit I L b) ≡ true) other.0 now in
            let low : nat_lt b (length I) ≡ true = ap (λ k. nat_lt b k) (sym long) ∙ inside in
            ((λ i. low i && (covered i && bit i)), other.1)
      ]

  -- one that was free and is none of these stays free
  pub free_stays : (b : ℕ) → is_free_block I L b ≡ true → ¬ Contains blocks b → is_free_block J L b ≡ true
  free_stays b f none =
      let inside : nat_lt b (length I) ≡ true = first_of (nat_lt b (length I)) (is_covered L b && storage_bit I L b) f in
      let rest : (is_covered L b && storage_bit I L b) ≡ true = second_of (nat_lt b (length I)) (is_covered L b && storage_bit I L b) f in
      let covered : is_covered L b ≡ true = first_of (is_covered L b) (storage_bit I L b) rest in
      let bit : storage_bit I L b ≡ true = second_of (is_covered L b) (storage_bit I L b) rest in
      elim (among_or_not blocks b) [
        | inl among ↦ absurd (none among.1)
        | inr other ↦
            let now : storage_bit J L b ≡ true = bits b covered ∙ ap (λ o. cond o false (storage_bit I L b)) other.0 ∙ bit in
            let low : nat_lt b (length J) ≡ true = ap (λ k. nat_lt b k) long ∙ inside in
            λ i. low i && (covered i && now i)
      ]

  -- the bit of a covered block is as it was, or the block is one of these
  pub bit_was : (b : ℕ) → IsTrue (is_covered L b) → ¬ Contains blocks b → storage_bit J L b ≡ storage_bit I L b
  bit_was b covered none = elim (among_or_not blocks b) [
    | inl among ↦ absurd (none among.1)
    | inr other ↦ bits b covered ∙ ap (λ o. cond o false (storage_bit I L b)) other.0
  ]

  -- a used block stays used
  pub used_stays : (b : ℕ) → IsTrue (is_covered L b) → storage_bit I L b ≡ false → storage_bit J L b ≡ false
  used_stays b covered used = bits b covered ∙ ap (cond (is_one_of blocks b) false) used ∙ both (is_one_of blocks b)
    where
      both : (x : Bool) → cond x false false ≡ false
      both true = refl
      both false = refl
