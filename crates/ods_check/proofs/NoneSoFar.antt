-- A loop over numbers that looks for the first that is so.
use Rattle.std.proofs.Common.{◌≡◌, ℕ, ◌+◌, ◌<◌, ◌≤◌, inl, inr, subst, arith}
use Rattle.std.specs.Prelude.{◌⊎◌}
use Rattle.std.proofs.lemmas.Bool.{cases_lt}

-- no number below k is so
abbrev pub NoneBelow : (ℕ → Type 0) → ℕ → Type 0
NoneBelow Is k = (n : ℕ) → n < k → ¬ Is n

pub none_at_all : (Is : ℕ → Type 0) → NoneBelow Is 0
none_at_all Is n low = absurd (omega (arith, low))

pub none_more : (Is : ℕ → Type 0) (k : ℕ) → NoneBelow Is k → ¬ Is k → NoneBelow Is (k + 1)
none_more Is k below here n low = elim (cases_lt n k) [
  | inl less ↦ below n less
  | inr past ↦ let same : n ≡ k = omega (arith, past, low) in λ is. here (subst Is same is)
]
