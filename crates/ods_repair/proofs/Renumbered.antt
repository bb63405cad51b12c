-- How the names of a directory get new versions, from the highest versions that are known to the end.
use Rattle.std.proofs.Common.{◌≡◌, ◌≢◌, ◌⊎◌, ℕ, ◌+◌, ◌<◌, ◌≤◌, refl, sym, ap, ◌∙◌, subst, IsTrue, List, Option, Some, None, arith, inl, inr}
use Rattle.std.specs.Prelude.{max, unwrap_or}
use Rattle.std.proofs.lemmas.Bool.{cases_lt}
use Rattle.std.proofs.lemmas.Option.{same_Some}
use Rattle.ods_directory.specs.Entry.{Entry, is_used}
use Rattle.ods_repair.specs.Doubled.{AreRenumbered, IsFull, IsNextVersion, IsUsed, name_part, version_part}
use Rattle.ods_repair.specs.Noted.{AreHighest, IsPartly, Sets}

-- nothing is known so far
pub none_highest : (entry : ℕ → Entry) (count : ℕ) (highest : List ℕ → Option ℕ) → ((q : List ℕ) → highest q ≡ None) → AreHighest entry count 0 highest
none_highest entry count highest none = record {
  top = λ j low. absurd (omega (arith, low));
  from = λ q h is. absurd (let clash : Some h ≡ None = sym is ∙ none q in cc);
}

module _ (entry : ℕ → Entry) (count p : ℕ) (before : List ℕ → Option ℕ) (s : AreHighest entry count p before) where
  or_last : (j : ℕ) → j < p + 1 → (j < p) ⊎ (j ≡ p)
  or_last j low = elim (cases_lt j p) [ inl less ↦ inl less | inr more ↦ inr (omega (arith, low, more)) ]

  -- an entry that is not used
  pub same_highest : (¬ IsTrue (is_used (entry p))) → AreHighest entry count (p + 1) before
  same_highest empty = record {
    top = λ j low used. elim (or_last j low) [
      | inl less ↦ s.top j less used
      | inr e ↦ absurd (empty (subst (λ k. IsTrue (is_used (entry k))) e used.1))
    ];
    from = λ q h is. let f = s.from q h is in (f.0, omega (arith, f.1), f.2, f.3, f.4);
  }

  -- one that is
  pub more_highest : (after : List ℕ → Option ℕ) (v : ℕ) → IsUsed entry count p → v ≡ max (unwrap_or (before (name_part (entry p))) 0) (version_part (entry p)) → Sets before (name_part (entry p)) v after → AreHighest entry count (p + 1) after
  more_highest after v used is sets = by (before (name_part (entry p))) refl
    where
      here : (j : ℕ) → name_part (entry j) ≡ name_part (entry p) → after (name_part (entry j)) ≡ Some v
      here j e = ap after e ∙ sets.here

      by : (o : Option ℕ) → before (name_part (entry p)) ≡ o → AreHighest entry count (p + 1) after
      by None e =
          let value : v ≡ version_part (entry p) = (let m : v ≡ max 0 (version_part (entry p)) = is ∙ ap (λ o. max (unwrap_or o 0) (version_part (entry p))) e in omega (arith, m)) in
          record {
            top = λ j low named. elim (sets.others (name_part (entry j))) [
              | inl kept ↦ elim (or_last j low) [
                | inl less ↦ (let t = s.top j less named in (t.0, kept ∙ t.1, t.2))
                | inr same ↦ (v, here j (ap (λ k. name_part (entry k)) same), (let w : version_part (entry j) ≡ version_part (entry p) = ap (λ k. version_part (entry k)) same in omega (arith, w, value)))
              ]
              | inr name ↦ elim (or_last j low) [
                | inl less ↦ absurd (let t = s.top j less named in let clash : Some t.0 ≡ None = sym t.1 ∙ ap before name ∙ e in cc)
                | inr same ↦ (v, here j name, (let w : version_part (entry j) ≡ version_part (entry p) = ap (λ k. version_part (entry k)) same in omega (arith, w, value)))
              ]
            ];
            from = λ q h found. elim (sets.others q) [
              | inl kept ↦ (let f = s.from q h (sym kept ∙ found) in (f.0, omega (arith, f.1), f.2, f.3, f.4))
              | inr name ↦ (p, omega arith, used, sym name, sym value ∙ same_Some v h (sym sets.here ∙ ap after (sym name) ∙ found))
            ];
          }
      by (Some g) e =
          let value : v ≡ max g (version_part (entry p)) = is ∙ ap (λ o. max (unwrap_or o 0) (version_part (entry p))) e in
          record {
            top = λ j low named. elim (or_last j low) [
              | inr same ↦ (v, here j (ap (λ k. name_part (entry k)) same), (let w : version_part (entry j) ≡ version_part (entry p) = ap (λ k. version_part (entry k)) same in omega (arith, w, value)))
              | inl less ↦ elim (sets.others (name_part (entry j))) [
                | inl kept ↦ (let t = s.top j less named in (t.0, kept ∙ t.1, t.2))
                | inr name ↦ (
                    let t = s.top j less named in
                    let known : t.0 ≡ g = same_Some t.0 g (sym t.1 ∙ ap before name ∙ e) in
                    (v, here j name, omega (arith, t.2, known, value))
                    )
              ]
            ];
            from = λ q h found. elim (sets.others q) [
              | inl kept ↦ (let f = s.from q h (sym kept ∙ found) in (f.0, omega (arith, f.1), f.2, f.3, f.4))
              | inr name ↦ (
                  let is_h : v ≡ h = same_Some v h (sym sets.here ∙ ap after (sym name) ∙ found) in
                  elim (cases_lt g (version_part (entry p))) [
                    | inl less ↦ (p, omega arith, used, sym name, omega (arith, less, value, is_h))
                    | inr more ↦ (let f = s.from (name_part (entry p)) g e in (f.0, omega (arith, f.1), f.2, f.3 ∙ sym name, omega (arith, f.4, more, value, is_h)))
                  ]
                  )
            ];
          }

-- before the first entry, where the highest versions are known and no key has come
pub begins : (old : ℕ → Entry) (count : ℕ) (highest seen : List ℕ → Option ℕ) → AreHighest old count count highest → ((q : List ℕ) → seen q ≡ None) → IsPartly old old count 0 highest seen
begins old count highest seen s none = record {
  later = λ k low. refl;
  each = λ k low. absurd (omega (arith, low));
  top = λ j used. s.top j used.0 used;
  top_new = λ j low. absurd (omega (arith, low));
  from = λ q h is. let f = s.from q h is in (f.0, f.2, f.3, inl f.4);
  seen_all = λ j low. absurd (omega (arith, low));
  seen_only = λ q there. absurd (there (none q));
}

-- behind the last
pub ends : (old new : ℕ → Entry) (count p : ℕ) (highest seen : List ℕ → Option ℕ) → count ≤ p → p ≤ count → IsPartly old new count p highest seen → AreRenumbered old new count
ends old new count p highest seen low high s = record {
  each = λ k less. s.each k (omega (arith, less, low));
  behind = λ k more. s.later k (omega (arith, more, high));
}

-- where the highest version of the name is the last that may be, the name is full
pub is_full : (old new : ℕ → Entry) (count p h : ℕ) (highest seen : List ℕ → Option ℕ) → IsPartly old new count p highest seen → IsUsed old count p → seen (old p).key ≢ None
    → highest (name_part (old p)) ≡ Some h → 32767 ≤ h → IsFull old count
is_full old new count p h highest seen s used there top last = (new, p, s.each, (used, s.seen_only (old p).key there), none)
  where
    none : (v : ℕ) → ¬ IsNextVersion old new count p v
    none v n =
        let f = s.from (name_part (old p)) h top in
        elim f.3 [
          | inl was ↦ (let less = n.above f.0 f.1 f.2 in let most = n.most in omega (arith, was, less, most, last))
          | inr (low, is) ↦ (let less = n.behind f.0 low f.1 f.2 in let most = n.most in omega (arith, is, less, most, last))
        ]
