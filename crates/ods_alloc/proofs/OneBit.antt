-- One bit of the block at an LBN.
use Rattle.std.proofs.Common.{◌≡◌, ◌≢◌, ◌⊎◌, ℕ, ◌<◌, refl, inl, inr, Bool, true, false, not, cond, nat_eq, List, [], ◌∷◌, length, sym, ap, ◌∙◌, arith}
use mathlib.Core.Bool.{beq}
use Rattle.std.proofs.lemmas.Bool.{cases_eq, eq-eqb, ne_eqb}
use Rattle.std.proofs.lemmas.List.{get_or-set_same, get_or-set_other}
use Rattle.ods_base.specs.Block.{has_bit}
use Rattle.ods_base.specs.Image.{block_at}
use Rattle.ods_space.specs.Draft.{Changes, ChangesBit, applied, seen_at}
use Rattle.ods_space.proofs.Drafts.{applied_over, length-applied, block_at-applied}
use Rattle.ods_alloc.specs.Marks.{PutsBit}

-- one block more in a draft
pub size_put : (I : List (List ℕ)) (d : Changes) (lbn : ℕ) (b : List ℕ) → length (applied I ((lbn, b) ∷ d)) ≡ length (applied I d)
size_put I d lbn b = length-applied I ((lbn, b) ∷ d) ∙ sym (length-applied I d)

pub put_same : (I : List (List ℕ)) (d : Changes) (lbn : ℕ) (b : List ℕ) → lbn < length I → block_at (applied I ((lbn, b) ∷ d)) lbn ≡ b
put_same I d lbn b inside =
    let within : lbn < length (applied I d) = omega (arith, length-applied I d) in
    ap (λ J. block_at J lbn) (applied_over I d lbn b) ∙ get_or-set_same (applied I d) lbn b [] within

pub put_other : (I : List (List ℕ)) (d : Changes) (lbn : ℕ) (b : List ℕ) (k : ℕ) → k ≢ lbn → block_at (applied I ((lbn, b) ∷ d)) k ≡ block_at (applied I d) k
put_other I d lbn b k other = ap (λ J. block_at J k) (applied_over I d lbn b) ∙ get_or-set_other (applied I d) lbn k b [] other

pub no_other : (a b : Bool) → not (beq a b) ≡ false → a ≡ b
no_other true true e = refl
no_other true false e = absurd (cc)
no_other false true e = absurd (cc)
no_other false false e = refl

-- a bit that stands so already
pub stands_so : (I : List (List ℕ)) (d : Changes) (lbn i : ℕ) (value : Bool) → lbn < length I → has_bit (seen_at I d lbn) i ≡ value → PutsBit (applied I d) lbn i value (applied I d)
stands_so I d lbn i value inside so = record { size = refl; bit = λ j. same j (cases_eq j i); others = λ k other. refl }
  where
    b : List ℕ
    b = block_at (applied I d) lbn

    same : (j : ℕ) → (j ≡ i) ⊎ (j ≢ i) → has_bit b j ≡ cond (nat_eq j i) value (has_bit b j)
    same j (inl e) = ap (has_bit b) e ∙ ap (λ l. has_bit l i) (block_at-applied I d lbn inside) ∙ so ∙ sym (ap (λ t. cond t value (has_bit b j)) (eq-eqb j i e))
    same j (inr n) = sym (ap (λ t. cond t value (has_bit b j)) (ne_eqb j i n))

-- one bit more in a draft
pub puts_bit : (I : List (List ℕ)) (d e : Changes) (lbn i : ℕ) (value : Bool) → lbn < length I → ChangesBit I d lbn i value e → PutsBit (applied I d) lbn i value (applied I e)
puts_bit I d e lbn i value inside put = record {
  size = ap length (put.becomes I) ∙ size_put I d lbn put.block;
  bit = λ j.
      ap (λ J. has_bit (block_at J lbn) j) (put.becomes I) ∙ ap (λ l. has_bit l j) (put_same I d lbn put.block inside) ∙ put.bit j
      ∙ ap (λ l. cond (nat_eq j i) value (has_bit l j)) (sym (block_at-applied I d lbn inside));
  others = λ k other. ap (λ J. block_at J k) (put.becomes I) ∙ put_other I d lbn put.block k other;
}
