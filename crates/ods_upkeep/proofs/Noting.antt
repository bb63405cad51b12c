-- The highest versions of names: one entry more is noted.
use Rattle.std.proofs.Common.{◌≡◌, ◌≢◌, ◌+◌, ◌<◌, ◌≤◌, ◌⊎◌, ◌∙◌, refl, ap, sym, subst, inl, inr, ℕ, Bool, true, false, cond, List, [], ◌∷◌, ◌++◌, drop, Option, Some, None, arith}
use Rattle.std.specs.Prelude.{max, slice_index, unwrap_or}
use Rattle.std.specs.List.{Contains}
use Rattle.std.specs.Ordering.{nat_cmp, is_eq}
use Rattle.std.specs.declared.cmp.Ordering.{Ordering}
use Rattle.std.specs.declared.cmp.Ordering.TheVariants.{Less, Equal, Greater}
use Rattle.std.specs.Cmp.Lexicographic.{slice_cmp}
use Rattle.std.specs.BTreeMap as tree
use Rattle.std.specs.BTreeMap.{BTreeMap}
use Rattle.std.proofs.lemmas.Cmp.{eq_by_cmp_equiv, nat_list_cmp_total}
use Rattle.std.proofs.lemmas.Map.Lookups.{exact_bytes}
use Rattle.std.proofs.lemmas.List.Elements.{Contains-append_left, Contains-push, Contains-push_cases}
use Rattle.ods_base.specs.Name.{RadName}
use Rattle.ods_base.specs.declared.listed.Listed.{Listed}
use Rattle.ods_upkeep.specs.Versions.{AreHighestOf, IsHighestOf, IsNoted, Noted, key_of, version_in}

-- names with one key are one
one_name : (a b : RadName) → key_of a ≡ key_of b → a ≡ b
one_name a b same = λ i. record { words = drop 1 (same i); ext = slice_index (same i) 0 }

-- a key is found at itself
pub itself : (k : List ℕ) → is_eq (slice_cmp nat_cmp k k) ≡ true
itself k = (eq_by_cmp_equiv nat_list_cmp_total).refl k

pub is_equal : (r : Ordering) → is_eq r ≡ true → r ≡ Equal
is_equal Less e = absurd (cc)
is_equal Equal e = refl
is_equal Greater e = absurd (cc)

found_same : (a b : RadName) → is_eq (slice_cmp nat_cmp (key_of a) (key_of b)) ≡ true → a ≡ b
found_same a b e = one_name a b (exact_bytes (key_of a) (key_of b) (is_equal (slice_cmp nat_cmp (key_of a) (key_of b)) e))

-- two names are one, or they are not
pub same_or_other : (a b : RadName) → (a ≡ b) ⊎ (a ≢ b)
same_or_other a b = by (is_eq (slice_cmp nat_cmp (key_of a) (key_of b))) refl
  where
    by : (r : Bool) → is_eq (slice_cmp nat_cmp (key_of a) (key_of b)) ≡ r → (a ≡ b) ⊎ (a ≢ b)
    by true e = inl (found_same a b e)
    by false e = inr (λ same. (let both : true ≡ false = sym (itself (key_of a)) ∙ ap (λ n. is_eq (slice_cmp nat_cmp (key_of a) (key_of n))) same ∙ e in absurd (cc)))

-- a version is noted by an update at the name's key
pub noted_by : (old new : BTreeMap (List ℕ) ℕ) (name : RadName) (version highest : ℕ) (key : List ℕ) → key ≡ key_of name → highest ≡ max (unwrap_or (version_in old.entries name) 0) version
    → tree.Updates (slice_cmp nat_cmp) old new key (Some highest) → IsNoted old.entries name version new.entries
noted_by old new name version highest key is most updates = record { here = here; others = others }
  where
    at : (q : List ℕ) → tree.get (slice_cmp nat_cmp) new q ≡ cond (is_eq (slice_cmp nat_cmp (key_of name) q)) (Some highest) (tree.get (slice_cmp nat_cmp) old q)
    at q = subst (λ k. tree.get (slice_cmp nat_cmp) new q ≡ cond (is_eq (slice_cmp nat_cmp k q)) (Some highest) (tree.get (slice_cmp nat_cmp) old q)) is (updates.0 q)

    here : version_in new.entries name ≡ Some (max (unwrap_or (version_in old.entries name) 0) version)
    here = at (key_of name) ∙ ap (λ b. cond b (Some highest) (version_in old.entries name)) (itself (key_of name)) ∙ ap Some most

    others : (other : RadName) → other ≢ name → version_in new.entries other ≡ version_in old.entries other
    others other apart = by (is_eq (slice_cmp nat_cmp (key_of name) (key_of other))) refl
      where
        by : (r : Bool) → is_eq (slice_cmp nat_cmp (key_of name) (key_of other)) ≡ r → version_in new.entries other ≡ version_in old.entries other
        by true e = absurd (apart (sym (found_same name other e)))
        by false e = at (key_of other) ∙ ap (λ b. cond b (Some highest) (version_in old.entries other)) e

-- one entry more
more_of : (xs : List Listed) (e : Listed) (name : RadName) (before after : Option ℕ) → e.name ≡ name → IsHighestOf xs name before → after ≡ Some (max (unwrap_or before 0) e.version)
    → IsHighestOf (xs ++ e ∷ []) name after
more_of xs e name None after is none now = subst (IsHighestOf (xs ++ e ∷ []) name) (sym now) (
  (e, Contains-push xs e, is, omega arith),
  λ other there same. elim (Contains-push_cases xs e other there) [
    | inl before ↦ absurd (none other before same)
    | inr one ↦ (let here : e.version ≡ other.version = ap (λ (x : Listed). x.version) one in omega (arith, here))
  ],
)
more_of xs e name (Some version) after is most now = subst (IsHighestOf (xs ++ e ∷ []) name) (sym now) (attained (cases version e.version), bound)
  where
    cases : (a b : ℕ) → (a ≤ b) ⊎ (b ≤ a)
    cases a b = search arith

    attained : (version ≤ e.version) ⊎ (e.version ≤ version) → (x : Listed) × Contains (xs ++ e ∷ []) x × (x.name ≡ name) × (x.version ≡ max version e.version)
    attained (inl up) = (e, Contains-push xs e, is, omega (arith, up))
    attained (inr down) = (most.0.0, Contains-append_left xs (e ∷ []) most.0.0 most.0.1, most.0.2, omega (arith, down, most.0.3))

    bound : (other : Listed) → Contains (xs ++ e ∷ []) other → other.name ≡ name → other.version ≤ max version e.version
    bound other there same = elim (Contains-push_cases xs e other there) [
      | inl before ↦ omega (arith, most.1 other before same)
      | inr one ↦ (let here : e.version ≡ other.version = ap (λ (x : Listed). x.version) one in omega (arith, here))
    ]

other_of : (xs : List Listed) (e : Listed) (name : RadName) (highest : Option ℕ) → name ≢ e.name → IsHighestOf xs name highest → IsHighestOf (xs ++ e ∷ []) name highest
other_of xs e name None apart none = λ other there same. elim (Contains-push_cases xs e other there) [
  | inl before ↦ none other before same
  | inr one ↦ apart (sym (ap (λ (x : Listed). x.name) one ∙ same))
]
other_of xs e name (Some version) apart most = (
  (most.0.0, Contains-append_left xs (e ∷ []) most.0.0 most.0.1, most.0.2, most.0.3),
  λ other there same. elim (Contains-push_cases xs e other there) [
    | inl before ↦ most.1 other before same
    | inr one ↦ absurd (apart (sym (ap (λ (x : Listed). x.name) one ∙ same)))
  ],
)

pub highest_more : (xs : List Listed) (e : Listed) (old new : Noted) → AreHighestOf xs (version_in old) → IsNoted old e.name e.version new → AreHighestOf (xs ++ e ∷ []) (version_in new)
highest_more xs e old new are noted name = elim (same_or_other name e.name) [
  | inl same ↦ (
      more_of xs e name (version_in old name) (version_in new name) (sym same) (are name)
      (subst (λ n. version_in new n ≡ Some (max (unwrap_or (version_in old n) 0) e.version)) (sym same) noted.here))
  | inr apart ↦ subst (IsHighestOf (xs ++ e ∷ []) name) (sym (noted.others name apart)) (other_of xs e name (version_in old name) apart (are name))
]

-- none is noted at first
pub none_noted : (noted : Noted) → noted ≡ [] → AreHighestOf [] (version_in noted)
none_noted noted empty name = subst (IsHighestOf [] name) (sym (ap (λ n. version_in n name) empty)) (λ e has. (let none_below : has.0 < 0 = has.1 in absurd (omega arith)))
