-- Lists of which each element stands in a relation to those behind it.
use Rattle.std.proofs.Common.{◌≡◌, ℕ, List, [], ◌∷◌, ◌++◌, Some, slice_get, inl, inr, arith}
use Rattle.std.proofs.lemmas.Option.{slice_get_within}
use Rattle.ods_check.specs.Lists.{AreInOrder}
use Rattle.ods_check.proofs.Turning.{of_append}

pub order_nil : {X : Type 0} (R : X → X → Type 0) → AreInOrder R []
order_nil R i j x y at also less = absurd (let within = slice_get_within [] i x at in omega arith)

-- two lists, one behind the other
pub order_append : {X : Type 0} (R : X → X → Type 0) (xs ys : List X) → AreInOrder R xs → AreInOrder R ys → ((i j : ℕ) (x y : X) → slice_get xs i ≡ Some x → slice_get ys j ≡ Some y → R x y) → AreInOrder R (xs ++ ys)
order_append R xs ys one two across i j x y at also less = elim (of_append xs ys i x at) [
  | inl first ↦ elim (of_append xs ys j y also) [
    | inl second ↦ one i j x y first second less
    | inr (k, is, second) ↦ across i k x y first second
  ]
  | inr (k, is, first) ↦ elim (of_append xs ys j y also) [
    | inl second ↦ absurd (let within = slice_get_within xs j y second in omega arith)
    | inr (h, same, second) ↦ two k h x y first second (omega arith)
  ]
]

-- one alone
pub order_one : {X : Type 0} (R : X → X → Type 0) (x : X) → AreInOrder R (x ∷ [])
order_one R x i j y z at also less =
    let one = slice_get_within (x ∷ []) i y at in
    let other = slice_get_within (x ∷ []) j z also in
    absurd (omega arith)
