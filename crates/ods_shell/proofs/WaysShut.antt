-- Closed directories that were met, and the lists of numbers that count as closed.
use Rattle.std.proofs.Common.{◌≡◌, ◌==◌, inl, inr, ℕ, refl, sym, ap, ◌∙◌, subst, true, false, List, [], ◌∷◌, ◌++◌, get_or, append_assoc, append-nil, arith}
use Rattle.std.specs.List.{All, Contains, list_any}
use Rattle.std.proofs.lemmas.List.Elements.{All-nil, All-cons, All-append}
use Rattle.std.proofs.lemmas.List.Folds.{list_any_at, Any-from_list_any}
use borrow.Author.Tests.{eqb-true, eq-eqb}
use Rattle.ods_base.specs.declared.listed.Listed.{Listed}
use Rattle.ods_space.specs.Layout.{VolumeLayout}
use Rattle.ods_shell.specs.Choosing.{AreThose}
use Rattle.ods_shell.specs.Found.{AreLinesOf}
use Rattle.ods_shell.specs.Ways.{AreMet, AreWays, CountAsClosed, LeadsOn}
use Rattle.ods_shell.specs.declared.folders.Directory.{Directory}

-- the test of a number says whether it is there
pub closed_is_there : (closed : List ℕ) (n : ℕ) → list_any (λ m. m == n) closed ≡ true → Contains closed n
closed_is_there closed n found = let any = Any-from_list_any (λ m. m == n) closed found in subst (Contains closed) (eqb-true any.1 n any.4) (any.0, any.2, any.3)

pub open_is_not_there : (closed : List ℕ) (n : ℕ) → list_any (λ m. m == n) closed ≡ false → ¬ Contains closed n
open_is_not_there closed n none has =
    let found : list_any (λ m. m == n) closed ≡ true = list_any_at (λ m. m == n) closed has.0 n has.1 (eq-eqb (get_or closed has.0 n) n has.2) in
    let clash : false ≡ true = sym none ∙ found in
    absurd (cc clash)

none_in_front : (xs ys : List Directory) → xs ++ ys ≡ [] → xs ≡ []
none_in_front [] ys e = refl
none_in_front (x ∷ xs) ys e = absurd (cc e)

some_at_end : (xs : List Directory) (x : Directory) → xs ++ x ∷ [] ≡ [] → ⊥
some_at_end [] x e = absurd (cc e)
some_at_end (y ∷ xs) x e = absurd (cc e)

-- none was met besides, or one
pub met_none : (closed : List ℕ) (before after : List Directory) → after ≡ before → AreMet closed before after
met_none closed before after same = ([], same ∙ sym (append-nil before), All-nil (λ (d : Directory). Contains closed d.number))

pub met_one : (closed : List ℕ) (before after : List Directory) (d : Directory) (n : ℕ) → Contains closed n → d.number ≡ n → after ≡ before ++ d ∷ [] → AreMet closed before after
met_one closed before after d n has named met = (
  d ∷ [],
  met,
  All-cons (λ (x : Directory). Contains closed x.number) d [] (subst (Contains closed) (sym named) has) (All-nil (λ (x : Directory). Contains closed x.number)),
)

-- some were met, and then more
pub met_on : (closed numbers : List ℕ) (first next last : List Directory) → numbers ≡ closed → AreMet closed first next → AreMet numbers next last → AreMet closed first last
met_on closed numbers first next last same one two = (
  one.0 ++ two.0,
  two.1 ∙ ap (λ ds. ds ++ two.0) one.1 ∙ append_assoc first one.0 two.0,
  All-append (λ (d : Directory). Contains closed d.number) one.0 two.0 one.2 (subst (λ (ns : List ℕ). All (λ (d : Directory). Contains ns d.number) two.0) same two.2),
)

-- What counts as closed later, counts as closed before: what was met is only added to.
pub counts_before : (closed numbers : List ℕ) (before after : List Directory) (shut : List ℕ) → AreMet numbers before after → CountAsClosed closed after shut → CountAsClosed closed before shut
counts_before closed numbers before after shut met counts = elim counts [ inl same ↦ inl same | inr none ↦ inr (none_in_front before met.0 (sym met.1 ∙ none.0), none.1) ]

pub counts_with : (closed numbers : List ℕ) (met : List Directory) (shut : List ℕ) → numbers ≡ closed → CountAsClosed closed met shut → CountAsClosed numbers met shut
counts_with closed numbers met shut same counts = subst (λ (ns : List ℕ). CountAsClosed ns met shut) (sym same) counts

module _ (I : List (List ℕ)) (L : VolumeLayout) (closed : List ℕ) (number : ℕ) where
  -- no way leads on from a directory that is closed
  pub closed_ways : (before after : List Directory) (d : Directory) (ways : List Listed) → Contains closed number → after ≡ before ++ d ∷ [] → ways ≡ [] → (shut : List ℕ) → CountAsClosed closed after shut → AreWays I L shut number ways
  closed_ways before after d ways has met none shut counts = elim counts [
    | inl same ↦ inl (subst (λ (ns : List ℕ). Contains ns number) (sym same) has, none)
    | inr none_met ↦ absurd (some_at_end before d (sym met ∙ none_met.0))
  ]

  -- the ways on from one that is open
  pub open_ways : (after : List Directory) (lines ways : List Listed) → list_any (λ m. m == number) closed ≡ false → AreLinesOf I L number lines → AreThose (LeadsOn I L) lines ways → (shut : List ℕ) → CountAsClosed closed after shut → AreWays I L shut number ways
  open_ways after lines ways none are those shut counts = inr (is_open, (lines, are, those))
    where
      is_open : ¬ Contains shut number
      is_open has = elim counts [
        | inl same ↦ open_is_not_there closed number none (subst (λ (ns : List ℕ). Contains ns number) same has)
        | inr empty ↦ let short = subst (λ (ns : List ℕ). Contains ns number) empty.1 has in absurd (omega (arith, short.1))
      ]
