-- Lines that are told in turn, none twice.
use Rattle.std.proofs.Common.{Bool, true, false, cond, ◌⊎◌, inl, inr, refl, ◌≡◌, ℕ, ◌+◌, ◌-◌, ◌<◌, ◌≤◌, arith, length, get_or, slice_get, Some, List, [], ◌∷◌, ◌++◌, sym, ap, ◌∙◌, subst, append_assoc}
use Rattle.std.proofs.lemmas.Bool.{cases_lt}
use Rattle.std.proofs.lemmas.List.{append-nil, length-append, get_or_append_left, get_or-append-add}
use Rattle.std.proofs.lemmas.List.Elements.{All-nil, All-cons, All-append}
use Rattle.std.proofs.lemmas.Option.{slice_get_within, slice_get-get_or, get_or_from_slice_get}
use Rattle.std.specs.List.{All}
use Rattle.ods_check.specs.Lists.{AreDistinct, AddsInTurn}

-- what is in two lists, one behind the other, is in one of them
pub of_append : {X : Type 0} (xs ys : List X) (i : ℕ) (x : X) → slice_get (xs ++ ys) i ≡ Some x → (slice_get xs i ≡ Some x) ⊎ ((k : ℕ) × (i ≡ length xs + k) × (slice_get ys k ≡ Some x))
of_append {X} xs ys i x at =
    let size = length-append xs ys in
    let within = slice_get_within (xs ++ ys) i x at in
    let is : get_or (xs ++ ys) i x ≡ x = get_or_from_slice_get (xs ++ ys) i x x at in
    elim (cases_lt i (length xs)) [
      | inl less ↦ inl (slice_get-get_or xs i x less ∙ ap Some (sym (get_or_append_left xs ys x i less) ∙ is))
      | inr more ↦
          let k : ℕ = i - length xs in
          let e : length xs + k ≡ i = omega arith in
          let here : get_or ys k x ≡ x = sym (get_or-append-add xs ys k x) ∙ ap (λ j. get_or (xs ++ ys) j x) e ∙ is in
          inr (k, sym e, slice_get-get_or ys k x (omega arith) ∙ ap Some here)
    ]

pub distinct_nil : {X : Type 0} → AreDistinct {X = X} []
distinct_nil i j x at also = absurd (let within = slice_get_within [] i x at in omega arith)

pub distinct_one : {X : Type 0} (x : X) → AreDistinct (x ∷ [])
distinct_one x i j y at also =
    let one = slice_get_within (x ∷ []) i y at in
    let other = slice_get_within (x ∷ []) j y also in
    omega arith

-- two lists with none twice, and none that is in both
pub distinct_append : {X : Type 0} (xs ys : List X) → AreDistinct xs → AreDistinct ys → ((i j : ℕ) (x : X) → slice_get xs i ≡ Some x → slice_get ys j ≡ Some x → ⊥) → AreDistinct (xs ++ ys)
distinct_append xs ys one two apart i j x at also = elim (of_append xs ys i x at) [
  | inl first ↦ elim (of_append xs ys j x also) [
    | inl second ↦ one i j x first second
    | inr (k, is, second) ↦ absurd (apart i k x first second)
  ]
  | inr (k, is, first) ↦ elim (of_append xs ys j x also) [
    | inl second ↦ absurd (apart j k x second first)
    | inr (h, same, second) ↦ let e = two k h x first second in omega arith
  ]
]

-- what all have is had by the one in this place
pub at_place : {X : Type 0} (P : X → Type 0) (xs : List X) (i : ℕ) (x : X) → All P xs → slice_get xs i ≡ Some x → P x
at_place P xs i x all at = subst P (get_or_from_slice_get xs i x x at) (all i x (slice_get_within xs i x at))

-- each of these is below n
abbrev pub AreBelow : ℕ → List ℕ → Type 0
AreBelow n xs = (i x : ℕ) → slice_get xs i ≡ Some x → x < n

-- a list with a greater number behind it has none twice
pub distinct_push : (xs : List ℕ) (n : ℕ) → AreBelow n xs → AreDistinct xs → AreDistinct (xs ++ n ∷ [])
distinct_push xs n below once =
    distinct_append xs (n ∷ []) once (distinct_one n) (λ i j x at also.
    let P : ℕ → Type 0 = λ y. y ≡ n in
    let is : x ≡ n = at_place P (n ∷ []) j x (All-cons P n [] refl (All-nil P)) also in
    let low = below i x at in
    omega arith)

module _ {X : Type 0} (turn : X → ℕ) where
  pub turn_none : (a b : ℕ) (xs : List X × ℕ) → AddsInTurn turn a b xs xs
  turn_none a b xs = record { more = []; is = ap (λ l. (l, xs.1)) (sym (append-nil xs.0)); turns = All-nil _; once = distinct_nil }

  pub turn_one : (a b : ℕ) (old new : List X × ℕ) (x : X) → new ≡ (old.0 ++ x ∷ [], old.1) → a ≤ turn x → turn x < b → AddsInTurn turn a b old new
  turn_one a b old new x is low high = record { more = x ∷ []; is = is; turns = All-cons (λ y. (a ≤ turn y) × (turn y < b)) x [] (low, high) (All-nil _); once = distinct_one x }

  -- turns between two numbers are between two that are farther apart
  turns_within : (a b c d : ℕ) (xs : List X) → c ≤ a → b ≤ d → All (λ x. (a ≤ turn x) × (turn x < b)) xs → All (λ x. (c ≤ turn x) × (turn x < d)) xs
  turns_within a b c d xs low high all k x within = let was = all k x within in ((let one = was.0 in omega arith), (let other = was.1 in omega arith))

  pub turn_within : (a b c d : ℕ) (old new : List X × ℕ) → c ≤ a → b ≤ d → AddsInTurn turn a b old new → AddsInTurn turn c d old new
  turn_within a b c d old new low high t = record {
    more = t.more;
    is = t.is;
    turns = turns_within a b c d t.more low high t.turns;
    once = t.once;
  }

  -- lines whose turns come later
  pub turn_more : (a b c : ℕ) (xs ys zs : List X × ℕ) → a ≤ b → b ≤ c → AddsInTurn turn a b xs ys → AddsInTurn turn b c ys zs → AddsInTurn turn a c xs zs
  turn_more a b c xs ys zs low high s t =
      let P : X → Type 0 = λ x. (a ≤ turn x) × (turn x < c) in
      record {
        more = s.more ++ t.more;
        is = t.is ∙ ap (λ l. (l.0 ++ t.more, l.1)) s.is ∙ ap (λ l. (l, xs.1)) (append_assoc xs.0 s.more t.more);
        turns = All-append P s.more t.more (turns_within a b a c s.more (omega arith) high s.turns) (turns_within b c a c t.more low (omega arith) t.turns);
        once = distinct_append s.more t.more s.once t.once (λ i j x at also.
            let before = (at_place (λ y. (a ≤ turn y) × (turn y < b)) s.more i x s.turns at).1 in
            let after = (at_place (λ y. (b ≤ turn y) × (turn y < c)) t.more j x t.turns also).0 in
            omega arith);
      }

  pub turn_if : (a b : ℕ) (old new : List X × ℕ) (x : X) (holds : Bool) → new ≡ cond holds (old.0 ++ x ∷ [], old.1) old → a ≤ turn x → turn x < b → AddsInTurn turn a b old new
  turn_if a b old new x true is low high = turn_one a b old new x is low high
  turn_if a b old new x false is low high = subst (AddsInTurn turn a b old) (sym is) (turn_none a b old)

  -- all that is told in a list that began empty is told once
  pub turn_once : (a b : ℕ) (old new : List X × ℕ) → old.0 ≡ [] → AddsInTurn turn a b old new → AreDistinct new.0
  turn_once a b old new none t = subst AreDistinct (sym (ap (λ l. l.0) t.is ∙ ap (λ l. l ++ t.more) none)) t.once
