-- Maximal runs of consecutive numbers with a property.
use Rattle.std.specs.Prelude.{◌≡◌, ℕ, ◌+◌, ◌-◌, ◌<◌, ◌≤◌, ◌⊎◌, List, [], ◌∷◌, ◌++◌, map, slice_get, Some}
use Rattle.std.specs.List.{All, Contains}

-- Numbers first to last have the property, and the numbers just before and just after them do not.
pub record IsRun (Is : ℕ → Type 0) (first last : ℕ) : Type 0 where
  pub forwards : first ≤ last
  pub each : (n : ℕ) → first ≤ n → n ≤ last → Is n
  pub before : (n : ℕ) → n + 1 ≡ first → ¬ Is n
  pub behind : ¬ Is (last + 1)

-- number n is in one of these runs
abbrev pub IsInOne : List (ℕ × ℕ) → ℕ → Type 0
IsInOne runs n = (r : ℕ × ℕ) × Contains runs r × (r.0 ≤ n) × (n ≤ r.1)

-- each of these runs ends before the later ones begin
abbrev pub AreRising : List (ℕ × ℕ) → Type 0
AreRising runs = (i j : ℕ) (r s : ℕ × ℕ) → slice_get runs i ≡ Some r → slice_get runs j ≡ Some s → i < j → r.1 < s.0

-- The list is the old one with the lines of runs at the end, in ascending order, which cover all numbers with the property.
pub record AddsRuns {X : Type 0} (Is : ℕ → Type 0) (line : ℕ → ℕ → X) (old new : List X × ℕ) : Type 0 where
  pub runs : List (ℕ × ℕ)
  pub is : new ≡ (old.0 ++ map (λ r. line r.0 r.1) runs, old.1)
  pub each : All (λ r. IsRun Is r.0 r.1) runs
  pub all : (n : ℕ) → Is n → IsInOne runs n
  pub rising : AreRising runs

-- The list receives the line of numbers start to end - 1, if there are any.
abbrev pub GetsRun : {X : Type 0} → (ℕ → ℕ → X) → ℕ → ℕ → List X × ℕ → List X × ℕ → Type 0
GetsRun line start end old new = ((start ≡ end) × (new ≡ old)) ⊎ ((start < end) × (new ≡ (old.0 ++ line start (end - 1) ∷ [], old.1)))

-- If number n has the property, the run that begins at start continues. Otherwise the run ends before n, and the next one can begin after n.
abbrev pub GoesOn : {X : Type 0} → (ℕ → Type 0) → (ℕ → ℕ → X) → ℕ → ℕ → List X × ℕ → List X × ℕ → ℕ → Type 0
GoesOn Is line start n old new next = (Is n × (next ≡ start) × (new ≡ old)) ⊎ ((¬ Is n) × (next ≡ n + 1) × GetsRun line start n old new)
