-- The flags of the numbers that are entered: none, and one more.
use Rattle.std.proofs.Common.{◌≡◌, ◌⊎◌, inl, inr, ℕ, ◌+◌, ◌<◌, refl, sym, ap, ◌∙◌, subst, Bool, true, false, cond, List, [], ◌∷◌, ◌++◌, length, set, get_or, Some, arith}
use Rattle.std.specs.Prelude.{not, MatchBool, replicate, slice_get}
use Rattle.std.specs.List.{Contains, count_by}
use Rattle.std.proofs.lemmas.Bool.{cases_eq}
use Rattle.std.proofs.lemmas.List.{length-set, get_or-set_same, get_or-set_other, length-replicate, get_or-replicate}
use Rattle.std.proofs.lemmas.List.Sums.{sum_by-set}
use Rattle.std.proofs.lemmas.List.Elements.{Contains-append_left, Contains-append_right, Contains-append_cases, Contains-push, Contains-push_cases}
use Rattle.ods_walk.specs.Steps.{AreEntered}

-- what a flag says of one thing it says of another that holds just where that does
carried : (b : Bool) (P Q : Type 0) → MatchBool b P (¬ P) → (P → Q) → (Q → P) → MatchBool b Q (¬ Q)
carried true P Q is there back = there is
carried false P Q is there back = λ q. is (back q)

is_clear : (b : Bool) (P : Type 0) → MatchBool b P (¬ P) → ¬ P → b ≡ false
is_clear true P is none = absurd (none is)
is_clear false P is none = refl

-- one more number is entered
pub entered_more : (flags : List Bool) (entered : List ℕ) (n : ℕ) → n < 65536 → AreEntered flags entered → AreEntered (set flags n true) (n ∷ entered)
entered_more flags entered n small are = record { size = length-set flags n true ∙ are.size; each = λ m under. by m under (cases_eq m n) }
  where
    Says : ℕ → Bool → Type 0
    Says m b = MatchBool b (Contains (n ∷ entered) m) (¬ Contains (n ∷ entered) m)

    inside : n < length flags
    inside = subst (λ k. n < k) (sym are.size) small

    back : (m : ℕ) → ¬ (m ≡ n) → Contains (n ∷ entered) m → Contains entered m
    back m other has = elim (Contains-append_cases (n ∷ []) entered m has) [
      | inl one ↦ absurd (elim (Contains-push_cases [] n m one) [ inl none ↦ (let none_below : none.0 < 0 = none.1 in absurd (omega arith)) | inr same ↦ other (sym same) ])
      | inr rest ↦ rest
    ]

    by : (m : ℕ) → m < 65536 → (m ≡ n) ⊎ (m ≡ n → ⊥) → Says m (get_or (set flags n true) m false)
    by m under (inl same) = subst (Says m) (sym (ap (λ k. get_or (set flags n true) k false) same ∙ get_or-set_same flags n true false inside)) (subst (λ k. Contains (n ∷ entered) k) (sym same) (Contains-append_left (n ∷ []) entered n (Contains-push [] n)))
    by m under (inr other) = subst (Says m) (sym (get_or-set_other flags n m true false other)) (carried (get_or flags m false) (Contains entered m) (Contains (n ∷ entered) m) (are.each m under) (Contains-append_right (n ∷ []) entered m) (back m other))

-- none is entered
pub entered_none : (flags : List Bool) (size : ℕ) → flags ≡ replicate size false → size ≡ 65536 → AreEntered flags []
entered_none flags size is all = record {
  size = ap length is ∙ length-replicate size false ∙ all;
  each = λ n small. subst (λ b. MatchBool b (Contains [] n) (¬ Contains [] n)) (sym (ap (λ l. get_or l n false) is ∙ get_or-replicate size n false false (subst (λ k. n < k) (sym all) small)))
      (λ none. absurd (let none_below : none.0 < 0 = none.1 in omega arith));
}

-- a flag that is set is one less that is not
pub fewer_left : (flags : List Bool) (entered : List ℕ) (n : ℕ) → n < 65536 → AreEntered flags entered → ¬ Contains entered n → count_by not (set flags n true) < count_by not flags
fewer_left flags entered n small are new =
    let inside : n < length flags = subst (λ k. n < k) (sym are.size) small in
    let clear : get_or flags n false ≡ false = is_clear (get_or flags n false) (Contains entered n) (are.each n small) new in
    let one : cond {A = ℕ} (not (get_or flags n false)) 1 0 ≡ 1 = ap (λ b. cond {A = ℕ} (not b) 1 0) clear in
    let sums : count_by not (set flags n true) + cond {A = ℕ} (not (get_or flags n false)) 1 0 ≡ count_by not flags + 0 = sum_by-set (λ x. cond (not x) 1 0) flags n true false inside in
    omega arith
