-- Names and files that are seen again, by their keys.
use Rattle.std.proofs.Common.{◌≡◌, ◌<◌, ◌↔◌, ◌⊎◌, ◌∙◌, refl, ap, sym, subst, ℕ, Bool, true, false, cond, List, [], ◌∷◌, ◌++◌, map, inl, inr, Option, Some, None, append_assoc, append-nil, drop, arith}
use Rattle.std.specs.Prelude.{not, slice_index, IsTrue}
use Rattle.std.specs.List.{Contains, list_any}
use Rattle.std.specs.Ordering.{nat_cmp, is_eq}
use Rattle.std.specs.declared.cmp.Ordering.{Ordering}
use Rattle.std.specs.declared.cmp.Ordering.TheVariants.{Less, Equal, Greater}
use Rattle.std.specs.Cmp.Lexicographic.{slice_cmp}
use Rattle.std.specs.BTreeMap.{is_at}
use Rattle.std.specs.BTreeSet as tree
use Rattle.std.specs.BTreeSet.{BTreeSet}
use Rattle.std.proofs.lemmas.Cmp.{eq_by_cmp_equiv, nat_list_cmp_total}
use Rattle.std.proofs.lemmas.Map.Lookups.{exact_bytes}
use Rattle.std.proofs.lemmas.List.{map-append}
use Rattle.std.proofs.lemmas.List.Elements.{Contains-append_left, Contains-append_right, Contains-push, Contains-push_cases, Contains-append_cases}
use Rattle.ods_shell.specs.declared.facts.Facts.{Facts}
use Rattle.ods_shell.specs.declared.found.EntryPlace.{EntryPlace}
use Rattle.ods_shell.specs.declared.found.Found.{Found}
use Rattle.ods_upkeep.specs.Sources.{AreFirst, IsAgain, IsSameOne}
use Rattle.ods_upkeep.specs.Once.{HasKeysOf, key, key_of}

-- what is the same has one key
same_key : (p q : Option EntryPlace) (f g : Option Facts) → IsSameOne p q f g → key_of p f ≡ key_of q g
same_key (Some a) (Some b) f g same = λ i. 0 ∷ same.directory i ∷ (same.name i).ext ∷ same.version i ∷ (same.name i).words
same_key (Some a) None f g same = absurd same
same_key None (Some b) f g same = absurd same
same_key None None (Some f) (Some g) same = λ i. 1 ∷ (same i).number ∷ (same i).sequence ∷ 0 ∷ 0 ∷ 0 ∷ 0 ∷ []
same_key None None (Some f) None same = absurd same
same_key None None None (Some g) same = absurd same
same_key None None None None same = refl

first_of : (m n : ℕ) (a b : List ℕ) → m ∷ a ≡ n ∷ b → m ≡ n
first_of m n a b e = ap (λ (l : List ℕ). slice_index l 0) e

-- and what has one key is the same
key_same : (p q : Option EntryPlace) (f g : Option Facts) → key_of p f ≡ key_of q g → IsSameOne p q f g
key_same (Some a) (Some b) f g e = record {
  directory = ap (λ l. slice_index l 1) e;
  name = λ i. record { words = drop 4 (e i); ext = slice_index (e i) 2 };
  version = ap (λ l. slice_index l 3) e;
}
key_same (Some a) None f (Some g) e = absurd (omega (arith, first_of 0 1 _ _ e))
key_same (Some a) None f None e = absurd (omega (arith, first_of 0 2 _ _ e))
key_same None (Some b) (Some f) g e = absurd (omega (arith, first_of 1 0 _ _ e))
key_same None (Some b) None g e = absurd (omega (arith, first_of 2 0 _ _ e))
key_same None None (Some f) (Some g) e = λ i. record { number = slice_index (e i) 1; sequence = slice_index (e i) 2 }
key_same None None (Some f) None e = absurd (omega (arith, first_of 1 2 _ _ e))
key_same None None None (Some g) e = absurd (omega (arith, first_of 2 1 _ _ e))
key_same None None None None e = tt

-- an element is the first or one of the others
first_or_other : {X : Type 0} (x : X) (xs : List X) (y : X) → Contains (x ∷ xs) y → (x ≡ y) ⊎ Contains xs y
first_or_other x xs y has = elim (Contains-append_cases (x ∷ []) xs y has) [
  | inl one ↦ elim (Contains-push_cases [] x y one) [ inl none ↦ (let none_below : none.0 < 0 = none.1 in absurd (omega arith)) | inr same ↦ inl same ]
  | inr rest ↦ inr rest
]

pub mapped : {X Y : Type 0} (f : X → Y) (xs : List X) (x : X) → Contains xs x → Contains (map f xs) (f x)
mapped f [] x has = let none_below : has.0 < 0 = has.1 in absurd (omega arith)
mapped f (y ∷ xs) x has = elim (first_or_other y xs x has) [
  | inl same ↦ subst (λ z. Contains (f y ∷ map f xs) (f z)) same (Contains-append_left (f y ∷ []) (map f xs) (f y) (Contains-push [] (f y)))
  | inr other ↦ Contains-append_right (f y ∷ []) (map f xs) (f x) (mapped f xs x other)
]

pub from_mapped : {X Y : Type 0} (f : X → Y) (xs : List X) (b : Y) → Contains (map f xs) b → (x : X) × Contains xs x × (f x ≡ b)
from_mapped f [] b has = let none_below : has.0 < 0 = has.1 in absurd (omega arith)
from_mapped f (y ∷ xs) b has = elim (first_or_other (f y) (map f xs) b has) [
  | inl same ↦ (y, Contains-append_left (y ∷ []) xs y (Contains-push [] y), same)
  | inr other ↦ (let there = from_mapped f xs b other in (there.0, Contains-append_right (y ∷ []) xs there.0 there.1, there.2))
]

-- one comes again just where its key does
again_key : (seen : List Found) (x : Found) → IsAgain seen x → Contains (map key seen) (key x)
again_key seen x again = subst (Contains (map key seen)) (same_key again.0.place x.place again.0.facts x.facts again.2) (mapped key seen again.0 again.1)

key_again : (seen : List Found) (x : Found) → Contains (map key seen) (key x) → IsAgain seen x
key_again seen x has = let there = from_mapped key seen (key x) has in (there.0, there.1, key_same there.0.place x.place there.0.facts x.facts there.2)

-- a set gets one key more
keys_more : (old new : BTreeSet (List ℕ)) (xs : List (List ℕ)) (k : List ℕ) → ((q : List ℕ) → IsTrue (tree.contains (slice_cmp nat_cmp) old q) ↔ Contains xs q)
    → tree.Updates (slice_cmp nat_cmp) old new k true → (q : List ℕ) → IsTrue (tree.contains (slice_cmp nat_cmp) new q) ↔ Contains (xs ++ k ∷ []) q
keys_more old new xs k has updates q = by (is_eq (slice_cmp nat_cmp k q)) refl
  where
    here : k ≡ q → is_eq (slice_cmp nat_cmp k q) ≡ true
    here same = subst (λ z. is_eq (slice_cmp nat_cmp k z) ≡ true) same ((eq_by_cmp_equiv nat_list_cmp_total).refl k)

    is_equal : (r : Ordering) → is_eq r ≡ true → r ≡ Equal
    is_equal Less e = absurd (cc)
    is_equal Equal e = refl
    is_equal Greater e = absurd (cc)

    by : (b : Bool) → is_eq (slice_cmp nat_cmp k q) ≡ b → IsTrue (tree.contains (slice_cmp nat_cmp) new q) ↔ Contains (xs ++ k ∷ []) q
    by true e =
        let same : k ≡ q = exact_bytes k q (is_equal (slice_cmp nat_cmp k q) e) in
        (λ _. subst (Contains (xs ++ k ∷ [])) same (Contains-push xs k), λ _. updates.0 q ∙ ap (λ b. cond b true (tree.contains (slice_cmp nat_cmp) old q)) e)
    by false e =
        let kept : tree.contains (slice_cmp nat_cmp) new q ≡ tree.contains (slice_cmp nat_cmp) old q = updates.0 q ∙ ap (λ b. cond b true (tree.contains (slice_cmp nat_cmp) old q)) e in (
          λ there. Contains-append_left xs (k ∷ []) q ((has q).0 (sym kept ∙ there)),
          λ there. elim (Contains-push_cases xs k q there) [ inl before ↦ kept ∙ (has q).1 before | inr same ↦ (let both : true ≡ false = sym (here same) ∙ e in absurd (cc)) ],
        )

pub has_keys_more : (old new : BTreeSet (List ℕ)) (seen : List Found) (x : Found) → HasKeysOf old seen → tree.Updates (slice_cmp nat_cmp) old new (key x) true → HasKeysOf new (seen ++ x ∷ [])
has_keys_more old new seen x has updates q =
    subst (λ ks. IsTrue (tree.contains (slice_cmp nat_cmp) new q) ↔ Contains ks q) (sym (map-append key seen (x ∷ []))) (keys_more old new (map key seen) (key x) has updates q)

-- a key that was there comes again, and another does not
pub was_seen : (old : BTreeSet (List ℕ)) (seen : List Found) (x : Found) → HasKeysOf old seen → tree.contains (slice_cmp nat_cmp) old (key x) ≡ true → IsAgain seen x
was_seen old seen x has is = key_again seen x ((has (key x)).0 is)

pub not_seen : (old : BTreeSet (List ℕ)) (seen : List Found) (x : Found) → HasKeysOf old seen → tree.contains (slice_cmp nat_cmp) old (key x) ≡ false → ¬ IsAgain seen x
not_seen old seen x has is again = let both : false ≡ true = sym is ∙ (has (key x)).1 (again_key seen x again) in absurd (cc)

-- an empty set has the keys of none
pub no_keys : (empty : BTreeSet (List ℕ)) → empty.keys ≡ [] → HasKeysOf empty []
no_keys empty is q = (
  λ there. (let both : false ≡ true = sym (ap (λ ks. list_any (is_at (slice_cmp nat_cmp q)) ks) is) ∙ there in absurd (cc)),
  λ has. (let none_below : has.0 < 0 = has.1 in absurd (omega arith)),
)

-- one more at the end, which comes again
pub first_again : (seen xs : List Found) (x : Found) (once : List Found) → AreFirst seen xs once → IsAgain (seen ++ xs) x → AreFirst seen (xs ++ x ∷ []) once
first_again seen [] x once same again = inl (subst (λ l. IsAgain l x) (append-nil seen) again, same)
first_again seen (y ∷ ys) x once first again =
    let on : IsAgain ((seen ++ y ∷ []) ++ ys) x = subst (λ l. IsAgain l x) (sym (append_assoc seen (y ∷ []) ys)) again in
    elim first [
      | inl seen_before ↦ inl (seen_before.0, first_again (seen ++ y ∷ []) ys x once seen_before.1 on)
      | inr new ↦ inr (new.0, new.1, new.2, first_again (seen ++ y ∷ []) ys x new.1 new.3 on)
    ]

-- and one that does not
pub first_new : (seen xs : List Found) (x : Found) (once : List Found) → AreFirst seen xs once → ¬ IsAgain (seen ++ xs) x → AreFirst seen (xs ++ x ∷ []) (once ++ x ∷ [])
first_new seen [] x once same new = inr ((λ again. new (subst (λ l. IsAgain l x) (sym (append-nil seen)) again)), [], ap (λ l. l ++ x ∷ []) same, refl)
first_new seen (y ∷ ys) x once first new =
    let on : ¬ IsAgain ((seen ++ y ∷ []) ++ ys) x = λ again. new (subst (λ l. IsAgain l x) (append_assoc seen (y ∷ []) ys) again) in
    elim first [
      | inl seen_before ↦ inl (seen_before.0, first_new (seen ++ y ∷ []) ys x once seen_before.1 on)
      | inr fresh ↦ inr (fresh.0, fresh.1 ++ x ∷ [], ap (λ l. l ++ x ∷ []) fresh.2, first_new (seen ++ y ∷ []) ys x fresh.1 fresh.3 on)
    ]

-- what an insert tells of a key
pub added_new : (old new : BTreeSet (List ℕ)) (k : List ℕ) (x : Found) (added : Bool) → k ≡ key x → tree.Updates (slice_cmp nat_cmp) old new k true → added ≡ not (tree.contains (slice_cmp nat_cmp) old k) → added ≡ true
    → (before : List Found) → HasKeysOf old before → HasKeysOf new (before ++ x ∷ []) × ¬ IsAgain before x
added_new old new k x added same updates told is before has =
    let was : tree.contains (slice_cmp nat_cmp) old (key x) ≡ false = ap (tree.contains (slice_cmp nat_cmp) old) (sym same) ∙ negated (tree.contains (slice_cmp nat_cmp) old k) true (sym told ∙ is) in
    (has_keys_more old new before x has (subst (λ q. tree.Updates (slice_cmp nat_cmp) old new q true) same updates), not_seen old before x has was)
  where
    negated : (b c : Bool) → not b ≡ c → b ≡ not c
    negated true c e = ap not e
    negated false c e = ap not e

pub added_again : (old new : BTreeSet (List ℕ)) (k : List ℕ) (x : Found) (added : Bool) → k ≡ key x → tree.Updates (slice_cmp nat_cmp) old new k true → added ≡ not (tree.contains (slice_cmp nat_cmp) old k) → added ≡ false
    → (before : List Found) → HasKeysOf old before → HasKeysOf new (before ++ x ∷ []) × IsAgain before x
added_again old new k x added same updates told is before has =
    let was : tree.contains (slice_cmp nat_cmp) old (key x) ≡ true = ap (tree.contains (slice_cmp nat_cmp) old) (sym same) ∙ negated (tree.contains (slice_cmp nat_cmp) old k) false (sym told ∙ is) in
    (has_keys_more old new before x has (subst (λ q. tree.Updates (slice_cmp nat_cmp) old new q true) same updates), was_seen old before x has was)
  where
    negated : (b c : Bool) → not b ≡ c → b ≡ not c
    negated true c e = ap not e
    negated false c e = ap not e

-- one more is looked at
pub first_step : (xs once next : List Found) (x : Found) → AreFirst [] xs once → (IsAgain xs x × (next ≡ once)) ⊎ ((¬ IsAgain xs x) × (next ≡ once ++ x ∷ [])) → AreFirst [] (xs ++ x ∷ []) next
first_step xs once next x first (inl (again, same)) = subst (AreFirst [] (xs ++ x ∷ [])) (sym same) (first_again [] xs x once first again)
first_step xs once next x first (inr (new, more)) = subst (AreFirst [] (xs ++ x ∷ [])) (sym more) (first_new [] xs x once first new)

-- the elements as they are
pub as_they_are : {X : Type 0} (xs : List X) → map (λ x. x) xs ≡ xs
as_they_are [] = refl
as_they_are (x ∷ xs) = λ i. x ∷ as_they_are xs i
