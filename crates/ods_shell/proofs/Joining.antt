-- What is known of the versions of names: one file more is noted, and another version is told by it.
use Rattle.std.proofs.Common.{◌≡◌, ◌≢◌, ◌<◌, ◌⊎◌, ◌∙◌, refl, ap, sym, subst, inl, inr, ℕ, Bool, true, false, not, cond, List, [], ◌∷◌, ◌++◌, Option, Some, None, arith}
use Rattle.std.specs.Prelude.{◌==◌, MatchBool}
use Rattle.std.specs.List.{Contains}
use Rattle.std.specs.Ordering.{nat_cmp, is_eq}
use Rattle.std.specs.declared.cmp.Ordering.{Ordering}
use Rattle.std.specs.declared.cmp.Ordering.TheVariants.{Less, Equal, Greater}
use Rattle.std.specs.Cmp.Lexicographic.{slice_cmp}
use Rattle.std.specs.BTreeMap as tree
use Rattle.std.specs.BTreeMap.{BTreeMap}
use Rattle.std.proofs.lemmas.Bool.{eqb-false, eqb-true}
use Rattle.std.proofs.lemmas.Cmp.{eq_by_cmp_equiv, nat_list_cmp_total}
use Rattle.std.proofs.lemmas.Map.Lookups.{exact_bytes}
use Rattle.std.proofs.lemmas.List.Elements.{Contains-append_left, Contains-push, Contains-push_cases}
use Rattle.ods_shell.specs.declared.found.EntryPlace.{EntryPlace}
use Rattle.ods_shell.specs.declared.found.Found.{Found}
use Rattle.ods_shell.specs.Versioned.{AreKnownOf, HasOther, IsJoined, IsKnownOf, Known, is_other, joined, known_of, name_key, version_at}

-- a key is found at itself
itself : (k : List ℕ) → is_eq (slice_cmp nat_cmp k k) ≡ true
itself k = (eq_by_cmp_equiv nat_list_cmp_total).refl k

is_equal : (r : Ordering) → is_eq r ≡ true → r ≡ Equal
is_equal Less e = absurd (cc)
is_equal Equal e = refl
is_equal Greater e = absurd (cc)

found_same : (a b : List ℕ) → is_eq (slice_cmp nat_cmp a b) ≡ true → a ≡ b
found_same a b e = exact_bytes a b (is_equal (slice_cmp nat_cmp a b) e)

-- two keys are one, or they are not
same_or_other : (a b : List ℕ) → (a ≡ b) ⊎ (a ≢ b)
same_or_other a b = by (is_eq (slice_cmp nat_cmp a b)) refl
  where
    by : (r : Bool) → is_eq (slice_cmp nat_cmp a b) ≡ r → (a ≡ b) ⊎ (a ≢ b)
    by true e = inl (found_same a b e)
    by false e = inr (λ same. (let both : true ≡ false = sym (itself a) ∙ ap (λ n. is_eq (slice_cmp nat_cmp a n)) same ∙ e in absurd (cc)))

-- a version is noted by an update at the key
pub joined_by : (old new : BTreeMap (List ℕ) (Option ℕ)) (key : List ℕ) (version : ℕ) (now : Option ℕ) (k : List ℕ) → k ≡ key → now ≡ joined (known_of old.entries key) version
    → tree.Updates (slice_cmp nat_cmp) old new k (Some now) → IsJoined old.entries key version new.entries
joined_by old new key version now k is value updates = record { here = here; others = others }
  where
    at : (q : List ℕ) → tree.get (slice_cmp nat_cmp) new q ≡ cond (is_eq (slice_cmp nat_cmp key q)) (Some now) (tree.get (slice_cmp nat_cmp) old q)
    at q = subst (λ l. tree.get (slice_cmp nat_cmp) new q ≡ cond (is_eq (slice_cmp nat_cmp l q)) (Some now) (tree.get (slice_cmp nat_cmp) old q)) is (updates.0 q)

    here : known_of new.entries key ≡ Some (joined (known_of old.entries key) version)
    here = at key ∙ ap (λ b. cond b (Some now) (known_of old.entries key)) (itself key) ∙ ap Some value

    others : (other : List ℕ) → other ≢ key → known_of new.entries other ≡ known_of old.entries other
    others other apart = by (is_eq (slice_cmp nat_cmp key other)) refl
      where
        by : (r : Bool) → is_eq (slice_cmp nat_cmp key other) ≡ r → known_of new.entries other ≡ known_of old.entries other
        by true e = absurd (apart (sym (found_same key other e)))
        by false e = at other ∙ ap (λ b. cond b (Some now) (known_of old.entries other)) e

-- one file more of this name
more_of : (xs : List Found) (f : Found) (key : List ℕ) (before after : Option (Option ℕ)) → name_key f.place ≡ key → IsKnownOf xs key before → after ≡ Some (joined before (version_at f.place))
    → IsKnownOf (xs ++ f ∷ []) key after
more_of xs f key None after is none now = subst (IsKnownOf (xs ++ f ∷ []) key) (sym now) (
  (f, Contains-push xs f, is, refl),
  λ other there same. elim (Contains-push_cases xs f other there) [
    | inl before ↦ absurd (none other before same)
    | inr one ↦ sym (ap (λ (x : Found). version_at x.place) one)
  ],
)
more_of xs f key (Some None) after is two now =
    subst (IsKnownOf (xs ++ f ∷ []) key) (sym now) (two.0, two.1, Contains-append_left xs (f ∷ []) two.0 two.2, Contains-append_left xs (f ∷ []) two.1 two.3, two.4, two.5, two.6)
more_of xs f key (Some (Some one)) after is all now = by (one == version_at f.place) refl
  where
    by : (r : Bool) → (one == version_at f.place) ≡ r → IsKnownOf (xs ++ f ∷ []) key after
    by true e = subst (IsKnownOf (xs ++ f ∷ []) key) (sym (now ∙ ap (λ b. Some (cond b (Some one) None)) e)) (
      (all.0.0, Contains-append_left xs (f ∷ []) all.0.0 all.0.1, all.0.2, all.0.3),
      λ other there same. elim (Contains-push_cases xs f other there) [
        | inl before ↦ all.1 other before same
        | inr last ↦ sym (ap (λ (x : Found). version_at x.place) last) ∙ sym (eqb-true one (version_at f.place) e)
      ],
    )
    by false e = subst (IsKnownOf (xs ++ f ∷ []) key) (sym (now ∙ ap (λ b. Some (cond b (Some one) None)) e)) (
      all.0.0,
      f,
      Contains-append_left xs (f ∷ []) all.0.0 all.0.1,
      Contains-push xs f,
      all.0.2,
      is,
      λ same. eqb-false one (version_at f.place) e (sym all.0.3 ∙ same),
    )

-- one file more of another name
other_of : (xs : List Found) (f : Found) (key : List ℕ) (known : Option (Option ℕ)) → key ≢ name_key f.place → IsKnownOf xs key known → IsKnownOf (xs ++ f ∷ []) key known
other_of xs f key None apart none = λ other there same. elim (Contains-push_cases xs f other there) [
  | inl before ↦ none other before same
  | inr one ↦ apart (sym (ap (λ (x : Found). name_key x.place) one ∙ same))
]
other_of xs f key (Some None) apart two = (two.0, two.1, Contains-append_left xs (f ∷ []) two.0 two.2, Contains-append_left xs (f ∷ []) two.1 two.3, two.4, two.5, two.6)
other_of xs f key (Some (Some one)) apart all = (
  (all.0.0, Contains-append_left xs (f ∷ []) all.0.0 all.0.1, all.0.2, all.0.3),
  λ other there same. elim (Contains-push_cases xs f other there) [
    | inl before ↦ all.1 other before same
    | inr last ↦ absurd (apart (sym (ap (λ (x : Found). name_key x.place) last ∙ same)))
  ],
)

-- one file more is known
pub known_more : (xs : List Found) (f : Found) (old new : Known) → AreKnownOf xs old → IsJoined old (name_key f.place) (version_at f.place) new → AreKnownOf (xs ++ f ∷ []) new
known_more xs f old new are noted key = elim (same_or_other key (name_key f.place)) [
  | inl same ↦ more_of xs f key (known_of old key) (known_of new key) (sym same) (are key)
      (subst (λ k. known_of new k ≡ Some (joined (known_of old k) (version_at f.place))) (sym same) noted.here)
  | inr apart ↦ subst (IsKnownOf (xs ++ f ∷ []) key) (sym (noted.others key apart)) (other_of xs f key (known_of old key) apart (are key))
]

-- none is known at first
pub none_known : (known : Known) → known ≡ [] → AreKnownOf [] known
none_known known empty key = subst (IsKnownOf [] key) (sym (ap (λ n. known_of n key) empty)) (λ f has. (let below : has.0 < 0 = has.1 in absurd (omega (arith, below))))

-- two versions differ, so one of them is not a third
one_of_two : (a b v : ℕ) → a ≢ b → (a ≢ v) ⊎ (b ≢ v)
one_of_two a b v apart = by (a == v) refl
  where
    by : (r : Bool) → (a == v) ≡ r → (a ≢ v) ⊎ (b ≢ v)
    by true e = inr (λ same. apart (eqb-true a v e ∙ sym same))
    by false e = inl (eqb-false a v e)

-- what is known of a name tells whether it is there in another version
pub tells_other : (files : List Found) (place : Option EntryPlace) (known : Option (Option ℕ)) → IsKnownOf files (name_key place) known
    → MatchBool (is_other known (version_at place)) (HasOther files place) (¬ HasOther files place)
tells_other files place None none = λ has. none has.0 has.1 has.2
tells_other files place (Some None) two = elim (one_of_two (version_at two.0.place) (version_at two.1.place) (version_at place) two.6) [
  | inl first ↦ (two.0, two.2, two.4, first)
  | inr second ↦ (two.1, two.3, two.5, second)
]
tells_other files place (Some (Some one)) all = by (one == version_at place) refl
  where
    by : (r : Bool) → (one == version_at place) ≡ r → MatchBool (is_other (Some (Some one)) (version_at place)) (HasOther files place) (¬ HasOther files place)
    by true e = subst (λ b. MatchBool (not b) (HasOther files place) (¬ HasOther files place)) (sym e) (λ has. has.3 (all.1 has.0 has.1 has.2 ∙ eqb-true one (version_at place) e))
    by false e = subst (λ b. MatchBool (not b) (HasOther files place) (¬ HasOther files place)) (sym e) (
      all.0.0,
      all.0.1,
      all.0.2,
      λ same. eqb-false one (version_at place) e (sym all.0.3 ∙ same),
    )
