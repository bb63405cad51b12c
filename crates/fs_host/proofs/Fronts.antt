-- The front of a name that is cut, and its number.
use Rattle.std.specs.Prelude.{◌≡◌, ℕ, ◌+◌, ◌*◌, ◌%◌, ◌^◌, ◌<◌, ◌≤◌, ◌⊎◌, List, length, take, fold}
use Rattle.std.specs.Str.{IsCharBoundary}
use Rattle.std.proofs.Common.{sym, subst, ◌∙◌, ap, arith, get_or, inl, inr}
use Rattle.std.proofs.Math.Nat.{eq-or-lt_of_le}
use Rattle.std.proofs.lemmas.List.Sums.{fold_more}
use Rattle.fs_host.specs.Names.{number_in}

-- one place more where a name cannot be cut
pub next_uncut : (name : List ℕ) (most end : ℕ) → ¬ IsCharBoundary name end → ((i : ℕ) → end + 1 ≤ i → i < most → ¬ IsCharBoundary name i) → (i : ℕ) → end ≤ i → i < most → ¬ IsCharBoundary name i
next_uncut name most end here rest i low high at =
    elim (eq-or-lt_of_le low) [ inl e ↦ here (subst (IsCharBoundary name) (sym e) at) | inr l ↦ rest i (omega arith) high at ]

-- the remainder of a sum with a remainder in it
rest_of : (x b : ℕ) → (x % 2 ^ 64 + b) % 2 ^ 64 ≡ (x + b) % 2 ^ 64
rest_of x b = omega arith

-- the number of a name of one byte more
pub next_number : (name : List ℕ) (i : ℕ) → i < length name → number_in (take (i + 1) name) ≡ ((number_in (take i name) * 257) % 2 ^ 64 + get_or name i 0) % 2 ^ 64
next_number name i low = fold_more (λ number byte. (number * 257 + byte) % 2 ^ 64) 0 name i 0 low ∙ sym (rest_of (number_in (take i name) * 257) (get_or name i 0))
