-- Neighbours are looked at one after another, until two are twins.
use Rattle.std.proofs.Common.{◌≡◌, ℕ, ◌+◌, ◌-◌, ◌<◌, ◌≤◌, sym, ap, ◌∙◌, subst, List, length, get_or, Some, arith, inl, inr}
use Rattle.std.specs.Prelude.{slice_get}
use Rattle.std.proofs.lemmas.Bool.{cases_lt}
use Rattle.std.proofs.lemmas.Option.{same_Some, slice_get-get_or, slice_get_within}
use Rattle.ods_shell.specs.Twins.{AreTwins, HaveTwins, StandsTwice}
use Rattle.ods_shell.specs.declared.found.Found.{Found}

at_place : (xs : List Found) (k : ℕ) (x : Found) → k < length xs → x ≡ get_or xs k x → slice_get xs k ≡ Some x
at_place xs k x low is = slice_get-get_or xs k x low ∙ ap Some (sym is)

module _ (xs : List Found) (at : ℕ) (a b : Found) (some : 1 ≤ at) (low : at < length xs) (first : a ≡ get_or xs (at - 1) a) (second : b ≡ get_or xs at b) where
  before : slice_get xs (at - 1) ≡ Some a
  before = at_place xs (at - 1) a (omega (arith, some, low)) first

  here : slice_get xs at ≡ Some b
  here = at_place xs at b low second

  pub twins_found : AreTwins a b → HaveTwins xs
  twins_found twins = let next : at - 1 + 1 ≡ at = omega (arith, some) in (at - 1, record { a = a; b = b; here = before; next = ap (slice_get xs) next ∙ here; twins = twins })

  pub none_so_far : ¬ AreTwins a b → ((i : ℕ) → i + 1 < at → ¬ StandsTwice xs i) → (i : ℕ) → i + 1 < at + 1 → ¬ StandsTwice xs i
  none_so_far apart none i small s = elim (cases_lt (i + 1) at) [
    | inl earlier ↦ none i earlier s
    | inr last ↦ (
        let next : i + 1 ≡ at = omega (arith, small, last) in
        let this : i ≡ at - 1 = omega (arith, small, last) in
        let one : s.a ≡ a = same_Some s.a a (sym s.here ∙ ap (slice_get xs) this ∙ before) in
        let other : s.b ≡ b = same_Some s.b b (sym s.next ∙ ap (slice_get xs) next ∙ here) in
        apart (subst (λ y. AreTwins a y) other (subst (λ x. AreTwins x s.b) one s.twins))
        )
  ]

pub none_at_all : (xs : List Found) (at : ℕ) → length xs ≤ at → ((i : ℕ) → i + 1 < at → ¬ StandsTwice xs i) → ¬ HaveTwins xs
none_at_all xs at end none (i, s) = let inside = slice_get_within xs (i + 1) s.b s.next in none i (omega (arith, end, inside)) s
