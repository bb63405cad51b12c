-- One entry after another gets the next version of its name where it has the name of one before it.
use Rattle.std.proofs.Common.{◌≡◌, ◌≢◌, ◌⊎◌, ℕ, zero, suc, ◌+◌, ◌<◌, ◌≤◌, refl, sym, ap, ◌∙◌, subst, IsTrue, List, [], ◌∷◌, length, get_or, Option, Some, None, arith, inl, inr, true}
use Rattle.std.specs.Prelude.{slice_set}
use Rattle.std.proofs.lemmas.Bool.{cases_lt}
use Rattle.std.proofs.lemmas.Option.{same_Some}
use Rattle.std.proofs.lemmas.List.{get_or-set_other, get_or-set_same}
use Rattle.ods_directory.specs.Entry.{Entry, IsGoodEntry, is_used}
use Rattle.ods_directory.proofs.Used.{AreApart}
use Rattle.ods_repair.specs.Noted.{IsAtLeast, IsPartly, Sets}
use Rattle.ods_repair.specs.Doubled.{IsAgain, IsKeptOr, IsNextVersion, IsUsed, name_part, version_part, with_version}

-- a number that is set twice is the second
set_twice : (xs : List ℕ) (i a b : ℕ) → slice_set (slice_set xs i a) i b ≡ slice_set xs i b
set_twice [] i a b = refl
set_twice (x ∷ xs) zero a b = refl
set_twice (x ∷ xs) (suc i) a b = ap (λ l. x ∷ l) (set_twice xs i a b)

module _ (old : ℕ → Entry) (count : ℕ) (long : (k : ℕ) → length (old k).key ≡ 5) where
  -- what is found of entry k by the new ones before it
  next_by : (new after : ℕ → Entry) (k v : ℕ) → ((j : ℕ) → j < k → after j ≡ new j) → IsNextVersion old new count k v → IsNextVersion old after count k v
  next_by new after k v same n = record {
    most = n.most;
    above = n.above;
    behind = λ j low used name. subst (λ e. version_part e < v) (sym (same j low)) (n.behind j low used name);
    next = (
      n.next.0,
      n.next.1,
      n.next.2,
      elim n.next.3 [
        | inl was ↦ inl was
        | inr (low, is) ↦ inr (low, ap (λ e. version_part e + 1) (same n.next.0 low) ∙ is)
      ],
    );
  }

  kept_by : (new after : ℕ → Entry) (k : ℕ) → ((j : ℕ) → j < k + 1 → after j ≡ new j) → IsKeptOr old new count k → IsKeptOr old after count k
  kept_by new after k same (inl (none, is)) = inl (none, same k (omega arith) ∙ is)
  kept_by new after k same (inr (again, (v, n, is))) = inr (again, (v, next_by new after k v (λ j low. same j (omega (arith, low))) n, same k (omega arith) ∙ is))

  module _ (new : ℕ → Entry) (p : ℕ) (highest seen : List ℕ → Option ℕ) (s : IsPartly old new count p highest seen) where
    below_or : (j : ℕ) → j < p + 1 → (j < p) ⊎ (j ≡ p)
    below_or j low = elim (cases_lt j p) [ inl less ↦ inl less | inr more ↦ inr (omega (arith, low, more)) ]

    not_again : seen (old p).key ≡ None → ¬ IsAgain old count p
    not_again none again = s.seen_all again.1.0 again.1.1 again.1.2 (ap seen again.1.3 ∙ none)

    -- an entry that is not used
    pub one_unused : (¬ IsTrue (is_used (old p))) → IsPartly old new count (p + 1) highest seen
    one_unused empty = record {
      later = λ k low. s.later k (omega (arith, low));
      each = λ k low. elim (below_or k low) [
        | inl less ↦ s.each k less
        | inr e ↦ subst (IsKeptOr old new count) (sym e) (inl ((λ again. empty again.0.1), s.later p (omega arith)))
      ];
      top = s.top;
      top_new = λ j low used. elim (below_or j low) [
        | inl less ↦ s.top_new j less used
        | inr e ↦ absurd (empty (subst (λ k. IsTrue (is_used (old k))) e used.1))
      ];
      from = λ q h is. let f = s.from q h is in (f.0, f.1, f.2, elim f.3 [ inl was ↦ inl was | inr (low, e) ↦ inr (omega (arith, low), e) ]);
      seen_all = λ j low used. elim (below_or j low) [
        | inl less ↦ s.seen_all j less used
        | inr e ↦ absurd (empty (subst (λ k. IsTrue (is_used (old k))) e used.1))
      ];
      seen_only = λ q there. let f = s.seen_only q there in (f.0, omega (arith, f.1), f.2, f.3);
    }

    -- one whose key comes for the first time
    pub one_first : (after : List ℕ → Option ℕ) (x : ℕ) → IsUsed old count p → seen (old p).key ≡ None → Sets seen (old p).key x after → IsPartly old new count (p + 1) highest after
    one_first after x used none sets = record {
      later = λ k low. s.later k (omega (arith, low));
      each = λ k low. elim (below_or k low) [
        | inl less ↦ s.each k less
        | inr e ↦ subst (IsKeptOr old new count) (sym e) (inl (not_again none, s.later p (omega arith)))
      ];
      top = s.top;
      top_new = λ j low is. elim (below_or j low) [
        | inl less ↦ s.top_new j less is
        | inr e ↦
            let here : new j ≡ old j = s.later j (omega (arith, e)) in
            subst (λ n. IsAtLeast (highest (name_part (old j))) (version_part n)) (sym here) (s.top j is)
      ];
      from = λ q h is. let f = s.from q h is in (f.0, f.1, f.2, elim f.3 [ inl was ↦ inl was | inr (low, e) ↦ inr (omega (arith, low), e) ]);
      seen_all = λ j low is gone. elim (sets.others (old j).key) [
        | inl same ↦ elim (below_or j low) [
          | inl less ↦ s.seen_all j less is (sym same ∙ gone)
          | inr e ↦ (let clash : Some x ≡ None = sym sets.here ∙ ap (λ k. after (old k).key) (sym e) ∙ gone in cc)
        ]
        | inr e ↦ (let clash : Some x ≡ None = sym sets.here ∙ ap after (sym e) ∙ gone in cc)
      ];
      seen_only = λ q there. elim (sets.others q) [
        | inl same ↦ (let f = s.seen_only q (λ gone. there (same ∙ gone)) in (f.0, omega (arith, f.1), f.2, f.3))
        | inr e ↦ (p, omega arith, used, sym e)
      ];
    }

    -- one whose key was there: it gets the next version
    pub one_again : (now : ℕ → Entry) (after : List ℕ → Option ℕ) (h : ℕ) → IsUsed old count p → seen (old p).key ≢ None → highest (name_part (old p)) ≡ Some h → h + 1 ≤ 32767
        → ((k : ℕ) → k ≢ p → now k ≡ new k) → now p ≡ with_version (old p) (h + 1) → Sets highest (name_part (old p)) (h + 1) after → IsPartly old now count (p + 1) after seen
    one_again now after h used there top most same here sets = record {
      later = λ k low. same k (λ e. absurd (omega (arith, e, low))) ∙ s.later k (omega (arith, low));
      each = λ k low. elim (below_or k low) [
        | inl less ↦ kept_by new now k (λ j under. same j (λ e. absurd (omega (arith, e, under, less)))) (s.each k less)
        | inr e ↦ subst (IsKeptOr old now count) (sym e) (inr (again, (h + 1, next, here)))
      ];
      top = λ j is. elim (sets.others (name_part (old j))) [
        | inl kept ↦ (let t = s.top j is in (t.0, kept ∙ t.1, t.2))
        | inr e ↦ (let t = old_top j is e in (h + 1, ap after e ∙ sets.here, omega (arith, t)))
      ];
      top_new = λ j low is. elim (below_or j low) [
        | inl less ↦ elim (sets.others (name_part (old j))) [
          | inl kept ↦ (let t = s.top_new j less is in (t.0, kept ∙ t.1, ap_le (new j) (now j) t.0 (same j (λ e. absurd (omega (arith, e, less)))) t.2))
          | inr e ↦ (let t = new_top j less is e in (h + 1, ap after e ∙ sets.here, ap_le (new j) (now j) (h + 1) (same j (λ e. absurd (omega (arith, e, less)))) (omega (arith, t))))
        ]
        | inr e ↦ (
            let is_now : version_part (now j) ≡ h + 1 = ap (λ k. version_part (now k)) e ∙ ap version_part here ∙ mine in
            (h + 1, ap (λ k. after (name_part (old k))) e ∙ sets.here, omega (arith, is_now))
            )
      ];
      from = λ q g is. elim (sets.others q) [
        | inl kept ↦ (
            let f = s.from q g (sym kept ∙ is) in
            (f.0, f.1, f.2, elim f.3 [ inl was ↦ inl was | inr (low, e) ↦ inr (omega (arith, low), ap version_part (same f.0 (λ z. absurd (omega (arith, z, low)))) ∙ e) ])
            )
        | inr e ↦ (
            let value : h + 1 ≡ g = same_Some (h + 1) g (sym sets.here ∙ ap after (sym e) ∙ is) in
            (p, used, sym e, inr (omega arith, ap version_part here ∙ mine ∙ value))
            )
      ];
      seen_all = λ j low is. elim (below_or j low) [
        | inl less ↦ s.seen_all j less is
        | inr e ↦ subst (λ k. seen (old k).key ≢ None) (sym e) there
      ];
      seen_only = λ q is. let f = s.seen_only q is in (f.0, omega (arith, f.1), f.2, f.3);
    }
      where
        mine : version_part (with_version (old p) (h + 1)) ≡ h + 1
        mine = get_or-set_same (old p).key 4 (h + 1) 0 (omega (arith, long p))

        ap_le : (a b : Entry) (g : ℕ) → b ≡ a → version_part a ≤ g → version_part b ≤ g
        ap_le a b g e low = subst (λ x. version_part x ≤ g) (sym e) low

        old_top : (j : ℕ) → IsUsed old count j → name_part (old j) ≡ name_part (old p) → version_part (old j) ≤ h
        old_top j is e =
            let t = s.top j is in
            let value : t.0 ≡ h = same_Some t.0 h (sym t.1 ∙ ap highest e ∙ top) in
            omega (arith, t.2, value)

        new_top : (j : ℕ) → j < p → IsUsed old count j → name_part (old j) ≡ name_part (old p) → version_part (new j) ≤ h
        new_top j low is e =
            let t = s.top_new j low is in
            let value : t.0 ≡ h = same_Some t.0 h (sym t.1 ∙ ap highest e ∙ top) in
            omega (arith, t.2, value)

        again : IsAgain old count p
        again = (used, s.seen_only (old p).key there)

        next : IsNextVersion old now count p (h + 1)
        next = record {
          most = most;
          above = λ j is e. let t = old_top j is e in omega (arith, t);
          behind = λ j low is e. subst (λ x. version_part x < h + 1) (sym (same j (λ z. absurd (omega (arith, z, low))))) (let t = new_top j low is e in omega (arith, t));
          next = (let f = s.from (name_part (old p)) h top in (
            f.0,
            f.1,
            f.2,
            elim f.3 [
              | inl was ↦ inl (ap (λ x. x + 1) was)
              | inr (low, e) ↦ inr (low, ap (λ x. x + 1) (ap version_part (same f.0 (λ z. absurd (omega (arith, z, low)))) ∙ e))
            ],
          ));
        }

  module _ (new : ℕ → Entry) (each : (k : ℕ) → k < count → IsKeptOr old new count k) where
    -- used entries stay used, and no others are
    used_was : (k : ℕ) → k < count → is_used (new k) ≡ true → is_used (old k) ≡ true
    used_was k low used = elim (each k low) [
      | inl (none, is) ↦ subst (λ e. is_used e ≡ true) is used
      | inr (again, (v, n, is)) ↦ again.0.1
    ]

    version_is : (k v : ℕ) → new k ≡ with_version (old k) v → version_part (new k) ≡ v
    version_is k v is = ap version_part is ∙ get_or-set_same (old k).key 4 v 0 (omega (arith, long k))

    name_is : (k : ℕ) → k < count → name_part (new k) ≡ name_part (old k)
    name_is k low = elim (each k low) [
      | inl (none, is) ↦ ap name_part is
      | inr (again, (v, n, is)) ↦ ap name_part is ∙ set_twice (old k).key 4 v 0
    ]

    is_named : (k : ℕ) → k < count → is_used (new k) ≡ true → IsUsed old count k
    is_named k low used = (low, used_was k low used)

    -- no two have one key
    pub apart_then : AreApart new 0 count
    apart_then i j from below within used_i used_j same = by (each i low_i) (each j low_j)
      where
        low_j : j < count
        low_j = omega (arith, within)

        low_i : i < count
        low_i = omega (arith, below, low_j)

        one : IsUsed old count i
        one = is_named i low_i used_i

        other : IsUsed old count j
        other = is_named j low_j used_j

        names : name_part (old i) ≡ name_part (old j)
        names = sym (name_is i low_i) ∙ ap (λ k. slice_set k 4 0) same ∙ name_is j low_j

        versions : version_part (new i) ≡ version_part (new j)
        versions = ap (λ k. get_or k 4 0) same

        by : IsKeptOr old new count i → IsKeptOr old new count j → ⊥
        by first (inr (again, (v, n, is))) = (let less = n.behind i below one names in let here = version_is j v is in absurd (omega (arith, less, here, versions)))
        by (inr (again, (v, n, is))) (inl (none, kept)) =
            let less = n.above j other (sym names) in
            let here = version_is i v is in
            let there : version_part (new j) ≡ version_part (old j) = ap version_part kept in
            absurd (omega (arith, less, here, there, versions))
        by (inl (first, is)) (inl (none, kept)) = none (other, (i, below, one, sym (ap (λ e. e.key) is) ∙ same ∙ ap (λ e. e.key) kept))

    -- where the old ones are good, so are the new ones
    pub good_then : ((k : ℕ) → k < count → is_used (old k) ≡ true → IsGoodEntry (old k)) → (k : ℕ) → k < count → is_used (new k) ≡ true → IsGoodEntry (new k)
    good_then good k low used = by (each k low)
      where
        was : IsGoodEntry (old k)
        was = good k low (used_was k low used)

        by : IsKeptOr old new count k → IsGoodEntry (new k)
        by (inl (none, is)) = subst IsGoodEntry (sym is) was
        by (inr (again, (v, n, is))) = subst IsGoodEntry (sym is) (record {
          words = λ i less. subst (λ w. w < 64000) (sym (get_or-set_other (old k).key 4 i v 0 (λ e. absurd (omega (arith, e, less))))) (was.words i less);
          some = (let here : get_or (slice_set (old k).key 4 v) 4 0 ≡ v = get_or-set_same (old k).key 4 v 0 (omega (arith, long k)) in let more = n.above k again.0 refl in omega (arith, here, more));
          most = (let here : get_or (slice_set (old k).key 4 v) 4 0 ≡ v = get_or-set_same (old k).key 4 v 0 (omega (arith, long k)) in omega (arith, here, n.most));
          volume = was.volume;
        })
