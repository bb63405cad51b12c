-- A loop over numbers that lists those that are so.
use Rattle.std.proofs.Common.{◌≡◌, ℕ, ◌+◌, ◌<◌, List, [], ◌∷◌, ◌++◌, inl, inr, sym, subst, arith}
use Rattle.std.specs.Prelude.{◌↔◌, ◌⊎◌}
use Rattle.std.specs.List.{Contains}
use Rattle.std.proofs.lemmas.Bool.{cases_lt}
use Rattle.std.proofs.lemmas.List.Elements.{Contains-append_left, Contains-push, Contains-push_cases}

-- these are all numbers below k that are so
abbrev pub AreBelow : (ℕ → Type 0) → ℕ → List ℕ → Type 0
AreBelow Is k xs = (n : ℕ) → Contains xs n ↔ ((n < k) × Is n)

pub none_below : (Is : ℕ → Type 0) → AreBelow Is 0 []
none_below Is n = (λ has. absurd (omega (arith, has.1)), λ low. absurd (omega (arith, low.0)))

-- one number more
pub more_below : (Is : ℕ → Type 0) (k : ℕ) (old new : List ℕ) → AreBelow Is k old → (Is k × (new ≡ old ++ k ∷ [])) ⊎ ((¬ Is k) × (new ≡ old)) → AreBelow Is (k + 1) new
more_below Is k old new below (inl h) n = (
  λ has. elim (Contains-push_cases old k n (subst (λ xs. Contains xs n) h.1 has)) [
    | inl there ↦ let low = (below n).0 there in (omega (arith, low.0), low.1)
    | inr same ↦ (omega (arith, same), subst Is same h.0)
  ],
  λ low. elim (cases_lt n k) [
    | inl less ↦ subst (λ xs. Contains xs n) (sym h.1) (Contains-append_left old (k ∷ []) n ((below n).1 (less, low.1)))
    | inr past ↦ let same : k ≡ n = omega (arith, past, low.0) in subst (λ xs. Contains xs n) (sym h.1) (subst (λ m. Contains (old ++ k ∷ []) m) same (Contains-push old k))
  ],
)
more_below Is k old new below (inr h) n = (
  λ has. let low = (below n).0 (subst (λ xs. Contains xs n) h.1 has) in (omega (arith, low.0), low.1),
  λ low. elim (cases_lt n k) [
    | inl less ↦ subst (λ xs. Contains xs n) (sym h.1) ((below n).1 (less, low.1))
    | inr past ↦ let same : n ≡ k = omega (arith, past, low.0) in absurd (h.0 (subst Is same low.1))
  ],
)

-- none of them is left out where all that are so are below the end
pub all_below : (Is : ℕ → Type 0) (k : ℕ) (xs : List ℕ) → AreBelow Is k xs → ((n : ℕ) → Is n → n < k) → (n : ℕ) → Contains xs n ↔ Is n
all_below Is k xs below inside n = (λ has. ((below n).0 has).1, λ is. (below n).1 (inside n is, is))
