-- Numbers that do not fall differ just where no two neighbours are the same.
use Rattle.std.proofs.Common.{◌≡◌, ◌≢◌, inl, inr, ℕ, ◌+◌, ◌-◌, ◌<◌, ◌≤◌, sym, ap, subst, List, length, get_or, Bool, true, false, arith, ◌∙◌}
use Rattle.std.specs.Prelude.{nat_eq, slice_index, MatchBool}
use Rattle.std.specs.List.{IsDistinct}
use Rattle.std.specs.List.Sorted.{IsNonDecreasing, IsPermutation}
use Rattle.std.specs.Cmp.{nat_eq_equiv}
use Rattle.std.proofs.lemmas.Bool.{cases_lt, ne_eqb}
use Rattle.std.proofs.lemmas.Option.{get_or_from_slice_get, slice_get-get_or}
use Rattle.std.proofs.lemmas.Map.Keys.{IsDistinct-from_apart, IsDistinct-IsPermutation, IsStrictlyIncreasing-from_distinct}
use Rattle.std.proofs.lemmas.List.Sorted.{IsPermutation-sym}

-- neighbours that are the same are twice there
pub same_neighbours : (xs : List ℕ) (i : ℕ) → IsNonDecreasing xs → 1 ≤ i → i < length xs → slice_index xs (i - 1) ≡ slice_index xs i → ¬ IsDistinct nat_eq xs
same_neighbours xs i ascending some below same distinct =
    let rising = IsStrictlyIncreasing-from_distinct xs ascending distinct in
    let up : slice_index xs (i - 1) < slice_index xs (i - 1 + 1) = rising (i - 1) (omega (arith, some, below)) in
    let next : i - 1 + 1 ≡ i = omega (arith, some) in
    let less : slice_index xs (i - 1) < slice_index xs i = subst (λ k. slice_index xs (i - 1) < slice_index xs k) next up in
    absurd (omega (arith, less, same))

-- each of the first numbers is below the next
abbrev pub RisesBelow : List ℕ → ℕ → Type 0
RisesBelow xs i = (k : ℕ) → k + 1 < i → slice_index xs k < slice_index xs (k + 1)

pub rises_on : (xs : List ℕ) (i : ℕ) → IsNonDecreasing xs → 1 ≤ i → i < length xs → RisesBelow xs i → slice_index xs (i - 1) ≢ slice_index xs i → RisesBelow xs (i + 1)
rises_on xs i ascending some below so other k low = elim (cases_lt (k + 1) i) [
  | inl before ↦ so k before
  | inr last ↦
      let here : k ≡ i - 1 = omega (arith, low, last) in
      let next : k + 1 ≡ i = omega (arith, low, last) in
      let up : slice_index xs k ≤ slice_index xs (k + 1) = ascending k (k + 1) 0 (omega arith) (omega (arith, next, below)) in
      let apart : slice_index xs k ≢ slice_index xs (k + 1) = λ same. other (sym (ap (slice_index xs) here) ∙ same ∙ ap (slice_index xs) next) in
      omega (arith, up, apart)
]

-- an element is the same whatever stands for one that is missing
any_default : (xs : List ℕ) (i d : ℕ) → i < length xs → get_or xs i d ≡ slice_index xs i
any_default xs i d below = get_or_from_slice_get xs i (slice_index xs i) d (slice_get-get_or xs i 0 below)

pub distinct_by_rising : (xs : List ℕ) (i : ℕ) → IsNonDecreasing xs → length xs ≤ i → RisesBelow xs i → IsDistinct nat_eq xs
distinct_by_rising xs i ascending all so = IsDistinct-from_apart nat_eq xs (λ a c d first within.
    let up : slice_index xs a < slice_index xs (a + 1) = so a (omega (arith, first, within, all)) in
    let later : slice_index xs (a + 1) ≤ slice_index xs c = ascending (a + 1) c 0 (omega (arith, first)) within in
    let at_a = any_default xs a d (omega (arith, first, within)) in
    let at_c = any_default xs c d within in
    ne_eqb (get_or xs a d) (get_or xs c d) (λ same. absurd (omega (arith, up, later, at_a, at_c, same))))

-- what holds of numbers in order holds of them as they stood
pub as_they_stood : (xs ys : List ℕ) → IsPermutation xs ys → (twice : Bool) → MatchBool twice (¬ IsDistinct nat_eq ys) (IsDistinct nat_eq ys) → MatchBool twice (¬ IsDistinct nat_eq xs) (IsDistinct nat_eq xs)
as_they_stood xs ys moved true twice = λ distinct. twice (IsDistinct-IsPermutation nat_eq nat_eq_equiv.symm xs ys moved distinct)
as_they_stood xs ys moved false once = IsDistinct-IsPermutation nat_eq nat_eq_equiv.symm ys xs (IsPermutation-sym xs ys moved) once
