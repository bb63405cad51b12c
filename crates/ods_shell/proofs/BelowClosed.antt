-- Closed directories that were met, and what counts as closed.
use Rattle.std.proofs.Common.{◌≡◌, inl, inr, ℕ, refl, sym, ap, ◌∙◌, subst, Bool, true, false, true≢false, List, [], ◌∷◌, ◌++◌, length, append-nil, append_assoc, take, ◌+◌, Some, Bor, arith}
use Rattle.std.specs.Prelude.{◌==◌}
use Rattle.std.specs.List.{All, Contains, list_any, slice_get}
use Rattle.std.proofs.lemmas.Bool.{eq-eqb, eqb-true}
use Rattle.std.proofs.lemmas.List.{length-append, take_more}
use Rattle.std.proofs.lemmas.List.Elements.{All-nil, All-append, All-cons, All-more}
use Rattle.std.proofs.lemmas.List.Folds.{Any-from_list_any, list_any_at}
use Rattle.std.proofs.lemmas.Option.{get_or_from_slice_get, slice_get_within}
use Rattle.ods_shell.specs.declared.folders.Directory.{Directory}
use Rattle.ods_shell.specs.Ways.{AreMet, CountAsClosed}

-- a test for a number says whether it is there
pub found_by_test : (xs : List ℕ) (n : ℕ) → list_any (λ x. x == n) xs ≡ true → Contains xs n
found_by_test xs n is =
    let one = Any-from_list_any (λ x. x == n) xs is in
    subst (Contains xs) (eqb-true one.1 n one.4) (one.0, one.2, one.3)

pub missed_by_test : (xs : List ℕ) (n : ℕ) → list_any (λ x. x == n) xs ≡ false → ¬ Contains xs n
missed_by_test xs n is has = true≢false (sym (list_any_at (λ x. x == n) xs has.0 n has.1 (eq-eqb _ n has.2)) ∙ is)

-- no list ends with an element and is empty
pub not_pushed : {X : Type 0} (xs : List X) (x : X) → xs ++ x ∷ [] ≡ [] → ⊥
not_pushed xs x is =
    let long = length-append xs (x ∷ []) in
    let none : length (xs ++ x ∷ []) ≡ 0 = ap length is in
    absurd (omega arith)

pub front_of_none : {X : Type 0} (xs ys : List X) → xs ++ ys ≡ [] → xs ≡ []
front_of_none [] ys is = refl
front_of_none (x ∷ xs) ys is = absurd (cc is)

-- what holds of the first elements, and of the next one
pub all_more : {X : Type 0} (P : X → Type 0) (xs : List X) (i : ℕ) (x : X) → slice_get xs i ≡ Some x → All P (take i xs) → P x → All P (take (i + 1) xs)
all_more P xs i x at first one = All-more P xs i x (slice_get_within xs i x at) first (subst P (sym (get_or_from_slice_get xs i x x at)) one)

-- the first elements, and the next one
pub took_more : {X : Type 0} (xs : List X) (i : ℕ) (x : X) → slice_get xs i ≡ Some x → take (i + 1) xs ≡ take i xs ++ x ∷ []
took_more xs i x at = take_more xs i x (slice_get_within xs i x at) ∙ ap (λ y. take i xs ++ y ∷ []) (get_or_from_slice_get xs i x x at)

pub same_now : (a b : Bor (List ℕ)) → a ≡ b → a.now ≡ b.now
same_now a b same = ap (λ (x : Bor (List ℕ)). x.now) same

-- none was met besides
pub met_none : (closed : List ℕ) (before : List Directory) → AreMet closed before before
met_none closed before = ([], sym (append-nil before), All-nil (λ d. Contains closed d.number))

-- some, and then some more
pub met_then : (closed : List ℕ) (first then_those last : List Directory) → AreMet closed first then_those → AreMet closed then_those last → AreMet closed first last
met_then closed first then_those last a b = (
  a.0 ++ b.0,
  b.1 ∙ ap (λ l. l ++ b.0) a.1 ∙ append_assoc first a.0 b.0,
  All-append (λ d. Contains closed d.number) a.0 b.0 a.2 b.2,
)

-- what counts as closed by the end has counted as closed before
pub counts_before : (closed shut : List ℕ) (before after : List Directory) → AreMet closed before after → CountAsClosed closed after shut → CountAsClosed closed before shut
counts_before closed shut before after more (inl all) = inl all
counts_before closed shut before after more (inr none) = inr (front_of_none before more.0 (sym more.1 ∙ none.0), none.1)

-- What a stop says: the directory is closed, and was met; or it is open, and nothing else was met.
pub record IsStop (closed : List ℕ) (n : ℕ) (stopped : Bool) (before after : List Directory) : Type 0 where
  pub value : stopped ≡ list_any (λ x. x == n) closed
  pub passed : stopped ≡ false → after ≡ before
  pub noted : stopped ≡ true → (d : Directory) × (d.number ≡ n) × (after ≡ before ++ d ∷ [])

module _ {closed : List ℕ} {n : ℕ} {before after : List Directory} where
  pub is_open : IsStop closed n false before after → ¬ Contains closed n
  is_open s = missed_by_test closed n (sym s.value)

  pub is_closed : IsStop closed n true before after → Contains closed n
  is_closed s = found_by_test closed n (sym s.value)

  pub met_by_stop : (stopped : Bool) → IsStop closed n stopped before after → AreMet closed before after
  met_by_stop false s = subst (AreMet closed before) (sym (s.passed refl)) (met_none closed before)
  met_by_stop true s =
      let noted = s.noted refl in (
        noted.0 ∷ [],
        noted.2,
        All-cons (λ d. Contains closed d.number) noted.0 [] (subst (Contains closed) (sym noted.1) (is_closed s)) (All-nil (λ d. Contains closed d.number)),
      )

  -- where none was met by the end, it is open
  pub open_where_none : (stopped : Bool) → IsStop closed n stopped before after → after ≡ [] → ¬ Contains closed n
  open_where_none false s none = is_open s
  open_where_none true s none = absurd (let noted = s.noted refl in not_pushed before noted.0 (sym noted.2 ∙ none))

  -- where one was met, the closed ones count
  pub all_count : (shut : List ℕ) → IsStop closed n true before after → CountAsClosed closed after shut → shut ≡ closed
  all_count shut s (inl all) = all
  all_count shut s (inr none) = absurd (let noted = s.noted refl in not_pushed before noted.0 (sym noted.2 ∙ none.0))
