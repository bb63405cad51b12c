-- What is left out of a list before a sort can be put back into the sorted list, each at a place where it keeps the order. So the rest is what is chosen of a sorted list of all.
use Rattle.std.proofs.Common.{◌≡◌, inl, inr, suc, zero, ◌+◌, refl, sym, subst, Bool, false, List, [], ◌∷◌, ◌++◌, get_or, append-nil, arith}
use Rattle.std.specs.Cmp.{IsStrictWeakOrder}
use Rattle.std.specs.List.{All, AllPairs}
use Rattle.std.specs.List.Sorted.{IsPermutation, IsSortedBy}
use Rattle.std.proofs.lemmas.Bool.{cases_Bool}
use Rattle.std.proofs.lemmas.List.Elements.{All-nil, All-cons, All-head, All-tail}
use Rattle.std.proofs.lemmas.List.Kept.{AllPairs-cons}
use Rattle.std.proofs.lemmas.List.Sorted.{sorted_far, All-permutation, IsPermutation-refl, IsPermutation-sym, IsPermutation-trans, IsPermutation-cons, IsPermutation-middle}
use Rattle.ods_shell.specs.Choosing.{AreThose}

-- no element is before an earlier one
abbrev Rises : {X : Type 0} → (X → X → Bool) → List X → Type 0
Rises lt xs = AllPairs (λ x y. lt y x ≡ false) xs

rises_none : {X : Type 0} (lt : X → X → Bool) → Rises lt []
rises_none lt i j d less within = absurd (omega arith)

-- of a list of which each is one of those, those are the whole
those_whole : {X : Type 0} (M : X → Type 0) (xs : List X) → All M xs → AreThose M xs xs
those_whole M [] all = refl
those_whole M (x ∷ xs) all = inl (All-head M x xs all, xs, refl, those_whole M xs (All-tail M x xs all))

each_of_those : {X : Type 0} (M : X → Type 0) (xs those : List X) → AreThose M xs those → All M those
each_of_those M [] those are = subst (All M) (sym are) (All-nil M)
each_of_those M (x ∷ xs) those are = elim are [
  | inl taken ↦ subst (All M) (sym taken.2) (All-cons M x taken.1 taken.0 (each_of_those M xs taken.1 taken.3))
  | inr left ↦ each_of_those M xs those left.1
]

-- those of a list, and of the list without its first element
behind_first : {X : Type 0} (M : X → Type 0) (x : X) (xs those : List X) → AreThose M (x ∷ xs) those
    → (rest : List X) × AreThose M xs rest × ((ys : List X) → AreThose M ys rest → AreThose M (x ∷ ys) those)
behind_first M x xs those are = elim are [
  | inl taken ↦ (taken.1, taken.3, λ ys more. inl (taken.0, taken.1, taken.2, more))
  | inr left ↦ (those, left.1, λ ys more. inr (left.0, more))
]

module _ {X : Type 0} (lt : X → X → Bool) (ranks : IsStrictWeakOrder lt) (M : X → Type 0) where
  -- one that is left out, put back
  put_back : (u : X) (xs those : List X) → ¬ M u → Rises lt xs → AreThose M xs those → (ys : List X) × IsPermutation (u ∷ xs) ys × Rises lt ys × AreThose M ys those
  put_back u [] those out rises are = (u ∷ [], IsPermutation-refl (u ∷ []), AllPairs-cons (λ x y. lt y x ≡ false) u [] (All-nil (λ y. lt y u ≡ false)) (rises_none lt), inr (out, are))
  put_back u (x ∷ xs) those out rises are =
      let first : All (λ y. lt y x ≡ false) xs = λ k d within. rises zero (suc k) d (omega arith) (omega arith) in
      let rest : Rises lt xs = λ i j d less within. rises (suc i) (suc j) d (omega arith) (omega arith) in
      elim (cases_Bool (lt x u)) [
        | inl before ↦ (
            let cut = behind_first M x xs those are in
            let put = put_back u xs cut.0 out rest cut.1 in
            let later : All (λ y. lt y x ≡ false) put.0 = All-permutation (λ y. lt y x ≡ false) (u ∷ xs) put.0 put.1 (All-cons (λ y. lt y x ≡ false) u xs (ranks.one_way x u before) first) in
            let moved : IsPermutation (u ∷ x ∷ xs) (x ∷ put.0) =
            IsPermutation-trans (u ∷ x ∷ xs) (x ∷ u ∷ xs) (x ∷ put.0) (IsPermutation-sym (x ∷ u ∷ xs) (u ∷ x ∷ xs) (IsPermutation-middle (x ∷ []) u xs)) (IsPermutation-cons x (u ∷ xs) put.0 put.1) in
            (x ∷ put.0, moved, AllPairs-cons (λ a b. lt b a ≡ false) x put.0 later put.2, cut.2 put.0 put.3))
        | inr behind ↦ (
            let later : All (λ y. lt y u ≡ false) xs = λ k d within. ranks.chain (get_or xs k d) x u (first k d within) behind in
            (u ∷ x ∷ xs, IsPermutation-refl (u ∷ x ∷ xs), AllPairs-cons (λ a b. lt b a ≡ false) u (x ∷ xs) (All-cons (λ y. lt y u ≡ false) x xs behind later) rises, inr (out, are)))
      ]

  -- all that are left out, put back
  all_put_back : (all some more sorted those : List X) → AreThose M all some → IsPermutation (some ++ more) sorted → Rises lt sorted → AreThose M sorted those
      → (ys : List X) × IsPermutation (all ++ more) ys × Rises lt ys × AreThose M ys those
  all_put_back [] some more sorted those are moved rises is = (sorted, subst (λ (xs : List X). IsPermutation (xs ++ more) sorted) are moved, rises, is)
  all_put_back (x ∷ all) some more sorted those are moved rises is = elim are [
    | inl taken ↦ (
        let here : IsPermutation (x ∷ (taken.1 ++ more)) sorted = subst (λ (xs : List X). IsPermutation (xs ++ more) sorted) taken.2 moved in
        let there : IsPermutation (taken.1 ++ x ∷ more) sorted = IsPermutation-trans (taken.1 ++ x ∷ more) (x ∷ (taken.1 ++ more)) sorted (IsPermutation-middle taken.1 x more) here in
        let put = all_put_back all taken.1 (x ∷ more) sorted those taken.3 there rises is in
        let back : IsPermutation (x ∷ (all ++ more)) put.0 =
        IsPermutation-trans (x ∷ (all ++ more)) (all ++ x ∷ more) put.0 (IsPermutation-sym (all ++ x ∷ more) (x ∷ (all ++ more)) (IsPermutation-middle all x more)) put.1 in
        (put.0, back, put.2, put.3))
    | inr left ↦ (
        let rest = all_put_back all some more sorted those left.1 moved rises is in
        let put = put_back x rest.0 those left.0 rest.2 rest.3 in
        (put.0, IsPermutation-trans (x ∷ (all ++ more)) (x ∷ rest.0) put.0 (IsPermutation-cons x (all ++ more) rest.0 rest.1) put.1, put.2, put.3))
  ]

  -- A sorted list of those that are chosen is what is chosen of a sorted list of all.
  pub sorted_of_all : (all some sorted : List X) → AreThose M all some → IsPermutation some sorted → IsSortedBy lt sorted → (ys : List X) × IsPermutation all ys × IsSortedBy lt ys × AreThose M ys sorted
  sorted_of_all all some sorted are moved up =
      let each : All M sorted = All-permutation M some sorted moved (each_of_those M all some are) in
      let rises : Rises lt sorted = λ i j d less within. sorted_far lt ranks sorted up i j d (omega arith) within in
      let put = all_put_back all some [] sorted sorted are (subst (λ (xs : List X). IsPermutation xs sorted) (sym (append-nil some)) moved) rises (those_whole M sorted each) in
      (put.0, subst (λ (xs : List X). IsPermutation xs put.0) (append-nil all) put.1, λ k d low within. put.2 k (k + 1) d (omega arith) within, put.3)
