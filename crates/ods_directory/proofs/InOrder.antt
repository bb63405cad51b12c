-- What is in the order of its keys, no two neighbours with one key, strictly rises.
use Rattle.std.proofs.Common.{◌≡◌, ◌≢◌, ℕ, zero, suc, ◌+◌, true, false, List, [], ◌∷◌, length, get_or, Some, refl, sym, ap, ◌∙◌, subst, arith}
use Rattle.std.specs.List.{slice_get}
use Rattle.std.specs.declared.cmp.Ordering.{Ordering}
use Rattle.std.specs.declared.cmp.Ordering.TheVariants.{Less, Equal, Greater}
use Rattle.std.specs.Ordering.{nat_cmp, is_lt, ordering_reverse}
use Rattle.std.specs.Cmp.{tied_itself}
use Rattle.std.specs.Cmp.Lexicographic.{slice_cmp, nat_list_cmp_total}
use Rattle.std.specs.FinMap.{is_sorted, slice_cmp-IsAntisymmetric, nat_cmp-IsAntisymmetric}
use Rattle.std.specs.FinMap.Entries.{below_all}
use Rattle.std.proofs.lemmas.Bool.{and_parts, and_from}
use Rattle.std.proofs.lemmas.Option.{same_Some}
use Rattle.ods_base.specs.declared.file_id.FileId.{FileId}
use Rattle.ods_directory.specs.Lines.{IsInOrder, HasNoTwinNeighbours}
use Rattle.ods_directory.proofs.Keyed.{pairs, HasNoTwins}

abbrev key_cmp : List ℕ → List ℕ → Ordering
key_cmp = slice_cmp nat_cmp

is_less : (r : Ordering) → is_lt r ≡ true → r ≡ Less
is_less Less h = refl
is_less Equal h = absurd (cc)
is_less Greater h = absurd (cc)

-- what is not above and not the same is below
below : (a b : List ℕ) → is_lt (key_cmp b a) ≡ false → a ≢ b → key_cmp a b ≡ Less
below a b h apart = nat_list_cmp_total.antisymm a b ∙ by (key_cmp b a) refl h
  where
    by : (r : Ordering) → key_cmp b a ≡ r → is_lt r ≡ false → ordering_reverse r ≡ Less
    by Less e g = absurd (cc)
    by Equal e g = absurd (apart (sym (slice_cmp-IsAntisymmetric nat_cmp-IsAntisymmetric b a e)))
    by Greater e g = refl

below_more : (x y : List ℕ) (es : List (List ℕ × FileId)) → key_cmp x y ≡ Less → below_all key_cmp y es ≡ true → below_all key_cmp x es ≡ true
below_more x y [] first h = refl
below_more x y (e ∷ es) first h =
    let both = and_parts (is_lt (key_cmp y e.0)) (below_all key_cmp y es) h in
    let next : key_cmp x e.0 ≡ Less = nat_list_cmp_total.trans x y e.0 first (is_less _ both.0) in
    and_from (is_lt (key_cmp x e.0)) (below_all key_cmp x es) (ap is_lt next) (below_more x y es first both.1)

module _ {X : Type 0} (key : X → List ℕ) (file : X → FileId) where
  in_order_rest : (x : X) (xs : List X) → IsInOrder key (x ∷ xs) → IsInOrder key xs
  in_order_rest x xs order k d low high =
      let next : suc k + 1 ≡ suc (k + 1) = omega arith in
      subst (λ n. is_lt (key_cmp (key (get_or (x ∷ xs) n d)) (key (get_or xs k d))) ≡ false) next (order (suc k) d (omega arith) (omega arith))

  alone_rest : (x : X) (xs : List X) → HasNoTwinNeighbours key (x ∷ xs) (length (x ∷ xs)) → HasNoTwinNeighbours key xs (length xs)
  alone_rest x xs alone k high one other first second =
      let next : suc k + 1 ≡ suc (k + 1) = omega arith in
      alone (suc k) (omega arith) one other first (ap (slice_get (x ∷ xs)) next ∙ second)

  -- the keys strictly rise
  pub strictly_sorted : (xs : List X) → IsInOrder key xs → HasNoTwinNeighbours key xs (length xs) → is_sorted key_cmp (pairs key file xs) ≡ true
  strictly_sorted [] order alone = refl
  strictly_sorted (x ∷ []) order alone = refl
  strictly_sorted (x ∷ y ∷ xs) order alone =
      let rest = strictly_sorted (y ∷ xs) (in_order_rest x (y ∷ xs) order) (alone_rest x (y ∷ xs) alone) in
      let first : key_cmp (key x) (key y) ≡ Less = below (key x) (key y) (order 0 x (omega arith) (omega arith)) (alone 0 (omega arith) x y refl refl) in
      let both = and_parts (below_all key_cmp (key y) (pairs key file xs)) (is_sorted key_cmp (pairs key file xs)) rest in
      and_from (below_all key_cmp (key x) (pairs key file (y ∷ xs))) (is_sorted key_cmp (pairs key file (y ∷ xs)))
      (and_from (is_lt (key_cmp (key x) (key y))) (below_all key_cmp (key x) (pairs key file xs)) (ap is_lt first) (below_more (key x) (key y) (pairs key file xs) first both.0))
      rest

  less_at : (x : List ℕ) (xs : List X) (j : ℕ) (y : X) → below_all key_cmp x (pairs key file xs) ≡ true → slice_get xs j ≡ Some y → key_cmp x (key y) ≡ Less
  less_at x [] j y h there = absurd (cc)
  less_at x (z ∷ xs) zero y h there =
      let both = and_parts (is_lt (key_cmp x (key z))) (below_all key_cmp x (pairs key file xs)) h in
      ap (λ l. key_cmp x (key l)) (sym (same_Some _ _ there)) ∙ is_less _ both.0
  less_at x (z ∷ xs) (suc j) y h there = less_at x xs j y (and_parts (is_lt (key_cmp x (key z))) (below_all key_cmp x (pairs key file xs)) h).1 there

  -- what strictly rises has no twins
  pub no_twins : (xs : List X) → is_sorted key_cmp (pairs key file xs) ≡ true → HasNoTwins key file xs
  no_twins [] h i j under x y first second = absurd (cc)
  no_twins (z ∷ xs) h zero zero under x y first second = absurd (omega arith)
  no_twins (z ∷ xs) h (suc i) zero under x y first second = absurd (omega arith)
  no_twins (z ∷ xs) h zero (suc j) under x y first second =
      let both = and_parts (below_all key_cmp (key z) (pairs key file xs)) (is_sorted key_cmp (pairs key file xs)) h in
      let less : key_cmp (key z) (key y) ≡ Less = less_at (key z) xs j y both.0 second in
      λ same.
      let equal : key_cmp (key z) (key y) ≡ Equal = ap (key_cmp (key z)) (sym (ap key (same_Some _ _ first) ∙ same)) ∙ tied_itself nat_list_cmp_total (key z) in
      let clash : Less ≡ Equal = sym less ∙ equal in absurd (cc)
  no_twins (z ∷ xs) h (suc i) (suc j) under x y first second =
      no_twins xs (and_parts (below_all key_cmp (key z) (pairs key file xs)) (is_sorted key_cmp (pairs key file xs)) h).1 i j (omega arith) x y first second
