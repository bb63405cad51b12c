-- Blocks whose bits are set from one on and before another.
use Rattle.std.proofs.Common.{◌≡◌, ◌≢◌, ℕ, ◌+◌, ◌/◌, ◌%◌, ◌≤◌, min, Bool, true, false, cond, ◌&&◌, List, sym, ap, ◌∙◌, inl, inr, arith}
use Rattle.std.specs.Prelude.{◌==◌, nat_le, nat_lt}
use Rattle.std.specs.Int.{bit_at}
use Rattle.std.proofs.lemmas.Bool.{and_from, and_left, and_right, cases_eq, cases_lt, eq-eqb, le-leb, le-ltb, lt-leb, lt-ltb, ne_eqb}
use Rattle.std.proofs.lemmas.Nat.Bits.{bit_at-zero}
use Rattle.ods_base.specs.Bits.{HasBit}
use Rattle.ods_base.specs.Block.{has_bit, zeros}
use Rattle.ods_base.proofs.Blocks.{byte-zeros}
use Rattle.ods_init.specs.Blocks.{HasBits}

abbrev pub Between : List ℕ → ℕ → ℕ → Type 0
Between b from end = (j : ℕ) → has_bit b j ≡ (nat_le from j && nat_lt j end)

none : (from end j : ℕ) → end ≤ from → (nat_le from j && nat_lt j end) ≡ false
none from end j low = elim (cases_lt j from) [ inl below ↦ and_left _ _ (lt-leb from j below) | inr above ↦ and_right (nat_le from j) _ (le-ltb j end (omega arith)) ]

-- zeros have no bit
pub no_bits : (b : List ℕ) (from end : ℕ) → b ≡ zeros → end ≤ from → Between b from end
no_bits b from end e low j =
    let none_set : has_bit zeros j ≡ false = ap (λ (x : ℕ). bit_at x (j % 8) == 1) (byte-zeros (j / 8)) ∙ ap (λ (x : ℕ). x == 1) (bit_at-zero (j % 8)) in
    ap (λ (x : List ℕ). has_bit x j) e ∙ none_set ∙ sym (none from end j low)

same_test : (from i j : ℕ) → j ≢ i → (nat_le from j && nat_lt j i) ≡ (nat_le from j && nat_lt j (i + 1))
same_test from i j other = elim (cases_lt j i) [
  | inl below ↦ ap (λ (t : Bool). nat_le from j && t) (lt-ltb j i below ∙ sym (lt-ltb j (i + 1) (omega arith)))
  | inr above ↦ ap (λ (t : Bool). nat_le from j && t) (le-ltb j i above ∙ sym (le-ltb j (i + 1) (omega arith)))
]

-- one more
pub one_more_bit : (b c : List ℕ) (from i : ℕ) → from ≤ i → Between b from i → HasBit b i true c → Between c from (i + 1)
one_more_bit b c from i low old set j = elim (cases_eq j i) [
  | inl e ↦ set j ∙ ap (λ (t : Bool). cond t true (has_bit b j)) (eq-eqb j i e) ∙ sym (and_from _ _ (le-leb from j (omega arith)) (lt-ltb j (i + 1) (omega arith)))
  | inr other ↦ set j ∙ ap (λ (t : Bool). cond t true (has_bit b j)) (ne_eqb j i other) ∙ old j ∙ same_test from i j other
]

-- an end past the block is as good as its own
pub all_bits : (b : List ℕ) (from end cut : ℕ) → cut ≡ min end 4096 → Between b from cut → HasBits b from end
all_bits b from end cut e set i small = set i ∙ (elim (cases_lt i cut) [
  | inl below ↦ ap (λ (t : Bool). nat_le from i && t) (lt-ltb i cut below ∙ sym (lt-ltb i end (omega arith)))
  | inr above ↦ ap (λ (t : Bool). nat_le from i && t) (le-ltb i cut above ∙ sym (le-ltb i end (omega arith)))
])
