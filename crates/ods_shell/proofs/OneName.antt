-- In the order of a listing lines of one name follow one another, and their versions fall.
use Rattle.std.proofs.Common.{◌≡◌, inl, inr, ℕ, ◌+◌, ◌<◌, ◌≤◌, refl, sym, ap, ◌∙◌, subst, false, List, [], ◌∷◌, ◌++◌, get_or, Some, arith}
use Rattle.std.specs.Prelude.{IsSortedByKey, slice_get}
use Rattle.std.specs.List.{Contains}
use Rattle.std.specs.Ordering.{is_lt, nat_cmp, ordering_then, ordering_reverse}
use Rattle.std.specs.Cmp.{IsTotalOrder}
use Rattle.std.specs.Cmp.Lexicographic.{slice_cmp}
use Rattle.std.specs.FinMap.{nat_cmp-IsAntisymmetric, slice_cmp-IsAntisymmetric}
use Rattle.std.specs.declared.cmp.Ordering.{Ordering}
use Rattle.std.specs.declared.cmp.Ordering.TheVariants.{Less, Equal, Greater}
use Rattle.std.proofs.lemmas.Cmp.{then_total, on_total, nat_list_cmp_total, tied_itself}
use Rattle.std.proofs.lemmas.Map.Keys.{ge_from_not_lt}
use Rattle.std.proofs.lemmas.List.Sorted.{ranks_by, sorted_far}
use Rattle.std.proofs.lemmas.Option.{slice_get_within, get_or_from_slice_get, slice_get-get_or}
use Rattle.ods_base.specs.Name.{title, type_text}
use Rattle.ods_base.specs.declared.listed.Listed.{Listed}
use Rattle.ods_paths.specs.Order.{Line, listing_cmp}
use Rattle.ods_paths.proofs.ListingOrder.{listing_total}
use Rattle.ods_walk.specs.Listing.{shown}
use Rattle.ods_paths.specs.declared.versions.Versions.TheVariants.{Highest, Lowest}
use Rattle.ods_shell.specs.Choosing.{IsOneName, IsPicked, AreThose}
use Rattle.ods_shell.proofs.Runs.{le_or_lt}

-- the order of names alone
abbrev names_cmp : Line → Line → Ordering
names_cmp a b = ordering_then (slice_cmp nat_cmp a.name b.name) (slice_cmp nat_cmp a.kind b.kind)

names_total : IsTotalOrder names_cmp
names_total = then_total (on_total (λ (l : Line). l.name) nat_list_cmp_total) (on_total (λ (l : Line). l.kind) nat_list_cmp_total)

both_equal : (o p : Ordering) → ordering_then o p ≡ Equal → (o ≡ Equal) × (p ≡ Equal)
both_equal Less p e = absurd (cc e)
both_equal Equal p e = (refl, e)
both_equal Greater p e = absurd (cc e)

-- names that are equal in order are one
one_by_order : (a b : Listed) → names_cmp (shown a) (shown b) ≡ Equal → IsOneName a b
one_by_order a b e =
    let both = both_equal (slice_cmp nat_cmp (title a.name) (title b.name)) (slice_cmp nat_cmp (type_text a.name) (type_text b.name)) e in
    (slice_cmp-IsAntisymmetric nat_cmp-IsAntisymmetric (title a.name) (title b.name) both.0, slice_cmp-IsAntisymmetric nat_cmp-IsAntisymmetric (type_text a.name) (type_text b.name) both.1)

-- what is not before in a listing is not before by its name
by_name : (n k v : Ordering) → is_lt (ordering_then n (ordering_then k v)) ≡ false → is_lt (ordering_then n k) ≡ false
by_name Less k v e = e
by_name Equal Less v e = e
by_name Equal Equal v e = refl
by_name Equal Greater v e = refl
by_name Greater k v e = refl

-- and where the names are one not by its version
by_version : (n k v : Ordering) → n ≡ Equal → k ≡ Equal → is_lt (ordering_then n (ordering_then k v)) ≡ false → is_lt v ≡ false
by_version n k v a b e = subst (λ x. is_lt (ordering_then x v) ≡ false) b (subst (λ x. is_lt (ordering_then x (ordering_then k v)) ≡ false) a e)

-- neither is before the other
neither : (o : Ordering) → is_lt o ≡ false → is_lt (ordering_reverse o) ≡ false → o ≡ Equal
neither Less a b = absurd (cc a)
neither Equal a b = refl
neither Greater a b = absurd (cc b)

one_back : (a b : Listed) → IsOneName a b → IsOneName b a
one_back a b one = (sym one.0, sym one.1)

-- an element stands at its place
pub at_place : (lines : List Listed) (o : Listed) (has : Contains lines o) → slice_get lines has.0 ≡ Some o
at_place lines o has = slice_get-get_or lines has.0 o has.1 ∙ ap Some has.2

pub placed_in : (lines : List Listed) (k : ℕ) (o : Listed) → slice_get lines k ≡ Some o → Contains lines o
placed_in lines k o at_k = (k, slice_get_within lines k o at_k, get_or_from_slice_get lines k o o at_k)

module _ (lines : List Listed) (sorted : IsSortedByKey shown listing_cmp lines) where
  -- no line is before one that stands before it
  ordered : (i j : ℕ) (a b : Listed) → slice_get lines i ≡ Some a → slice_get lines j ≡ Some b → i ≤ j → is_lt (listing_cmp (shown b) (shown a)) ≡ false
  ordered i j a b at_i at_j up =
      let far = sorted_far (λ x y. is_lt (listing_cmp (shown x) (shown y))) (ranks_by listing_total shown) lines sorted i j a up (slice_get_within lines j b at_j) in
      subst (λ x. is_lt (listing_cmp (shown b) (shown x)) ≡ false) (get_or_from_slice_get lines i a a at_i)
      (subst (λ x. is_lt (listing_cmp (shown x) (shown (get_or lines i a))) ≡ false) (get_or_from_slice_get lines j b a at_j) far)

  -- of one name the later line has no higher version
  pub falls : (i j : ℕ) (a b : Listed) → slice_get lines i ≡ Some a → slice_get lines j ≡ Some b → i ≤ j → IsOneName a b → b.version ≤ a.version
  falls i j a b at_i at_j up one =
      let names : slice_cmp nat_cmp (title b.name) (title a.name) ≡ Equal = subst (λ t. slice_cmp nat_cmp (title b.name) t ≡ Equal) (sym one.0) (tied_itself nat_list_cmp_total (title b.name)) in
      let kinds : slice_cmp nat_cmp (type_text b.name) (type_text a.name) ≡ Equal = subst (λ t. slice_cmp nat_cmp (type_text b.name) t ≡ Equal) (sym one.1) (tied_itself nat_list_cmp_total (type_text b.name)) in
      ge_from_not_lt a.version b.version
      (by_version (slice_cmp nat_cmp (title b.name) (title a.name)) (slice_cmp nat_cmp (type_text b.name) (type_text a.name)) (nat_cmp a.version b.version) names kinds (ordered i j a b at_i at_j up))

  -- a line between two of one name has that name
  pub between : (i m j : ℕ) (a x b : Listed) → slice_get lines i ≡ Some a → slice_get lines m ≡ Some x → slice_get lines j ≡ Some b → i ≤ m → m ≤ j → IsOneName a b → IsOneName x b
  between i m j a x b at_i at_m at_j low high one =
      let after_a : is_lt (names_cmp (shown x) (shown a)) ≡ false =
      by_name (slice_cmp nat_cmp (title x.name) (title a.name)) (slice_cmp nat_cmp (type_text x.name) (type_text a.name)) (nat_cmp a.version x.version) (ordered i m a x at_i at_m low) in
      let after_x : is_lt (names_cmp (shown b) (shown x)) ≡ false =
      by_name (slice_cmp nat_cmp (title b.name) (title x.name)) (slice_cmp nat_cmp (type_text b.name) (type_text x.name)) (nat_cmp x.version b.version) (ordered m j x b at_m at_j high) in
      let same : names_cmp (shown x) (shown a) ≡ names_cmp (shown x) (shown b) =
      λ k. ordering_then (slice_cmp nat_cmp (title x.name) (one.0 k)) (slice_cmp nat_cmp (type_text x.name) (one.1 k)) in
      one_by_order x b (neither (names_cmp (shown x) (shown b)) (subst (λ o. is_lt o ≡ false) same after_a) (subst (λ o. is_lt o ≡ false) (names_total.antisymm (shown b) (shown x)) after_x))

  module _ (place : ℕ) (e : Listed) (there : slice_get lines place ≡ Some e) where
    -- what was looked at from this place back to another one has no higher version, and before that none has the name
    pub is_highest : (at : ℕ) → ((k : ℕ) (o : Listed) → at ≤ k → k < place → slice_get lines k ≡ Some o → o.version ≤ e.version) → ((k : ℕ) (o : Listed) → k < at → slice_get lines k ≡ Some o → IsOneName o e → ⊥)
        → IsPicked Highest lines e
    is_highest at seen before o has one =
        let at_k = at_place lines o has in
        elim (le_or_lt place has.0) [
          | inl behind ↦ falls place has.0 e o there at_k behind (one_back o e one)
          | inr ahead ↦ elim (le_or_lt at has.0) [ inl looked ↦ seen has.0 o looked ahead at_k | inr not_looked ↦ absurd (before has.0 o not_looked at_k one) ]
        ]

    -- and as much forward
    pub is_lowest : (at : ℕ) → ((k : ℕ) (o : Listed) → place < k → k < at → slice_get lines k ≡ Some o → e.version ≤ o.version) → ((k : ℕ) (o : Listed) → at ≤ k → slice_get lines k ≡ Some o → IsOneName o e → ⊥)
        → IsPicked Lowest lines e
    is_lowest at seen behind o has one =
        let at_k = at_place lines o has in
        elim (le_or_lt has.0 place) [
          | inl ahead ↦ falls has.0 place o e at_k there ahead one
          | inr later ↦ elim (le_or_lt at has.0) [ inl not_looked ↦ absurd (behind has.0 o not_looked at_k one) | inr looked ↦ seen has.0 o later looked at_k ]
        ]

    -- before a line of another name none has this one
    pub none_before : (m : ℕ) (x : Listed) → slice_get lines m ≡ Some x → m ≤ place → ¬ IsOneName x e → (k : ℕ) (o : Listed) → k < m + 1 → slice_get lines k ≡ Some o → IsOneName o e → ⊥
    none_before m x at_m low other k o small at_k one = other (between k m place o x e at_k at_m there (omega arith) low one)

    pub none_behind : (m : ℕ) (x : Listed) → slice_get lines m ≡ Some x → place ≤ m → ¬ IsOneName x e → (k : ℕ) (o : Listed) → m ≤ k → slice_get lines k ≡ Some o → IsOneName o e → ⊥
    none_behind m x at_m high other k o small at_k one =
        let same = between place m k e x o there at_m at_k high small (one_back o e one) in
        other (same.0 ∙ one.0, same.1 ∙ one.1)

-- ---- the lines that are chosen

pub those_none : {X : Type 0} (P : X → Type 0) → AreThose P [] []
those_none P = refl

-- a line more that is chosen, or is not
pub those_more : {X : Type 0} (P : X → Type 0) (xs found : List X) (x : X) → P x → AreThose P xs found → AreThose P (xs ++ x ∷ []) (found ++ x ∷ [])
those_more P [] found x is are = inl (is, [], ap (λ l. l ++ x ∷ []) are, refl)
those_more P (y ∷ xs) found x is are = elim are [
  | inl taken ↦ inl (taken.0, taken.1 ++ x ∷ [], ap (λ l. l ++ x ∷ []) taken.2, those_more P xs taken.1 x is taken.3)
  | inr left ↦ inr (left.0, those_more P xs found x is left.1)
]

pub those_as_before : {X : Type 0} (P : X → Type 0) (xs found : List X) (x : X) → ¬ P x → AreThose P xs found → AreThose P (xs ++ x ∷ []) found
those_as_before P [] found x is_not are = inr (is_not, are)
those_as_before P (y ∷ xs) found x is_not are = elim are [
  | inl taken ↦ inl (taken.0, taken.1, taken.2, those_as_before P xs taken.1 x is_not taken.3)
  | inr left ↦ inr (left.0, those_as_before P xs found x is_not left.1)
]
