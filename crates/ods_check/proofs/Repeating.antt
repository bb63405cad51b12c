-- Numbers that come again, one by one.
use Rattle.std.proofs.Common.{◌&&◌, not, ◌≡◌, ◌⊎◌, ℕ, ◌+◌, ◌<◌, ◌≤◌, Bool, true, false, List, length, slice_get, Some, inl, inr, refl, sym, ap, ◌∙◌, subst, arith}
use Rattle.std.proofs.lemmas.Bool.{cases_lt}
use Rattle.std.proofs.lemmas.Option.{slice_get_within}
use Rattle.ods_mount.specs.Tables.{has, IsNoted, IsThere}
use Rattle.ods_check.specs.Lists.{AreDistinct}
use Rattle.ods_check.specs.Sets.{IsSetOf}
use Rattle.ods_check.proofs.Noting.{IsWithFirst, set_as, set_same}

-- number b stands before place i, and was there when it came
abbrev pub IsThereBefore : List ℕ → List ℕ → ℕ → ℕ → Type 0
IsThereBefore start xs i b = (k : ℕ) × (k < i) × (slice_get xs k ≡ Some b) × ((has start b ≡ true) ⊎ ((j : ℕ) × (j < k) × (slice_get xs j ≡ Some b)))

-- the set has those of the first i numbers too that were there when they came
abbrev pub IsWithThere : List ℕ → List ℕ → List ℕ → ℕ → List ℕ → Type 0
IsWithThere old start xs i set = IsSetOf (λ b. (has old b ≡ true) ⊎ IsThereBefore start xs i b) set

-- one number more
pub there_more : (old start xs once : List ℕ) (i b : ℕ) (there : Bool) (set new : List ℕ) → slice_get xs i ≡ Some b → IsWithFirst start xs i once → there ≡ has once b → IsWithThere old start xs i set
    → IsSetOf (λ x. (has set x ≡ true) ⊎ ((there ≡ true) × (x ≡ b))) new → IsWithThere old start xs (i + 1) new
there_more old start xs once i b there set new at first is w s = set_as (λ x. (has set x ≡ true) ⊎ ((there ≡ true) × (x ≡ b))) (λ x. (has old x ≡ true) ⊎ IsThereBefore start xs (i + 1) x) new
    (λ x o. elim o [
      | inl m ↦ elim (w.only x m) [
        | inl was ↦ inl was
        | inr (k, low, at_k, from) ↦ inr (k, omega arith, at_k, from)
      ]
      | inr (was_there, e) ↦
          let met = first.only b (sym is ∙ was_there) in
          let P : ℕ → Type 0 = λ y. IsThereBefore start xs (i + 1) y in
          inr (subst P (sym e) (i, omega arith, at, met))
    ])
    (λ x o. elim o [
      | inl was ↦ inl (w.all x (inl was))
      | inr (k, low, at_k, from) ↦ elim (cases_lt k i) [
        | inl less ↦ inl (w.all x (inr (k, less, at_k, from)))
        | inr more ↦
            let e : k ≡ i = omega arith in
            let same : Some x ≡ Some b = sym at_k ∙ ap (slice_get xs) e ∙ at in
            let f : x ≡ b = cc in
            let P : ℕ → ℕ → Type 0 = λ y l. (has start y ≡ true) ⊎ ((j : ℕ) × (j < l) × (slice_get xs j ≡ Some y)) in
            let Q : ℕ → Type 0 = λ y. P y k in
            let met : P b i = subst (P b) e (subst Q f from) in
            inr (is ∙ first.all b met, f)
      ]
    ]) s

pub there_all : (old start xs : List ℕ) (i : ℕ) (set : List ℕ) → length xs ≤ i → IsWithThere old start xs i set → IsSetOf (λ b. (has old b ≡ true) ⊎ IsThere start xs b) set
there_all old start xs i set end w = set_as (λ b. (has old b ≡ true) ⊎ IsThereBefore start xs i b) (λ b. (has old b ≡ true) ⊎ IsThere start xs b) set
    (λ b o. elim o [ inl m ↦ inl m | inr (k, low, at, from) ↦ inr (record { index = k; named = at; there = from }) ])
    (λ b o. elim o [ inl m ↦ inl m | inr t ↦ inr (t.index, (let within = slice_get_within xs t.index b t.named in omega arith), t.named, t.there) ]) w

-- numbers that are noted are distinct
pub distinct_noted : (start set xs : List ℕ) (i : ℕ) → length xs ≤ i → IsNoted start set xs i → AreDistinct xs
distinct_noted start set xs i end t j k b at_j at_k =
    let one = slice_get_within xs j b at_j in
    let two = slice_get_within xs k b at_k in
    t.distinct j k b (omega arith) (omega arith) at_j at_k

-- a number is new where those before it were, and it was not there
pub both_new : (a b : Bool) → a && not b ≡ true → (a ≡ true) × (b ≡ false)
both_new true false e = (refl, refl)
both_new true true e = absurd (cc)
both_new false b e = absurd (cc)
