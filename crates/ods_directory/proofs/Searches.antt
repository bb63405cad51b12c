-- A pass finds the entry that a name with a pick means.
use Rattle.std.proofs.Common.{◌≡◌, ◌≢◌, ℕ, ◌+◌, ◌<◌, ◌≤◌, Bool, true, false, cond, ◌&&◌, fold, Option, Some, None, refl, sym, ap, ◌∙◌, subst, arith, below_more, inl, inr}
use Rattle.std.specs.List.{range_with_len}
use Rattle.std.proofs.lemmas.Bool.{ltb-true, ltb-false, eqb-true, eqb-false, and_parts, and_cases}
use Rattle.ods_base.specs.Name.{RadName}
use Rattle.ods_base.specs.Names.{version_of}
use Rattle.ods_base.specs.declared.name.Pick.{Pick}
use Rattle.ods_base.specs.declared.name.Pick.TheVariants.{Exact, Highest, Lowest}
use Rattle.ods_directory.specs.declared.search.Found.{Found}
use Rattle.ods_directory.specs.declared.search.Search.{Search}
use Rattle.ods_directory.specs.Entry.{Entry}
use Rattle.ods_directory.specs.Search.{is_better, is_named, search_after, IsEntryOf, IsBest, IsFound}
use Rattle.ods_directory.proofs.Folds.{fold_keeps}

module _ (entry : ℕ → Entry) (n : RadName) where
  version_at : ℕ → ℕ
  version_at k = version_of (entry k).key

  -- one more entry is meant rather than what was found before
  best_now : (pick : Pick) (found : Option Found) (m : ℕ) → IsFound entry m n pick found → is_better pick found (version_of (entry m).key) ≡ true → IsBest entry (m + 1) n pick (version_of (entry m).key)
  best_now (Exact v) None m h better = eqb-true _ v better
  best_now (Exact v) (Some f) m h better = absurd (cc)
  best_now Highest None m h better = below_more (λ k. is_named n (entry k) ≡ true → version_of (entry k).key ≤ version_of (entry m).key) m (λ k below named. absurd (h k below named)) (λ _. omega arith)
  best_now Highest (Some f) m h better =
      let above : f.version < version_of (entry m).key = ltb-true _ _ better in
      below_more (λ k. is_named n (entry k) ≡ true → version_of (entry k).key ≤ version_of (entry m).key) m (λ k below named. omega (arith, above, h.1 k below named)) (λ _. omega arith)
  best_now Lowest None m h better = below_more (λ k. is_named n (entry k) ≡ true → version_of (entry m).key ≤ version_of (entry k).key) m (λ k below named. absurd (h k below named)) (λ _. omega arith)
  best_now Lowest (Some f) m h better =
      let under : version_of (entry m).key < f.version = ltb-true _ _ better in
      below_more (λ k. is_named n (entry k) ≡ true → version_of (entry m).key ≤ version_of (entry k).key) m (λ k below named. omega (arith, under, h.1 k below named)) (λ _. omega arith)

  later : (m : ℕ) (f : Found) → IsEntryOf entry m n f → IsEntryOf entry (m + 1) n f
  later m f h = record { below = omega (arith, h.below); named = h.named; file = h.file; version = h.version }

  -- one more entry is not meant
  still : (pick : Pick) (found : Option Found) (m : ℕ) → IsFound entry m n pick found → (is_named n (entry m) ≡ true → is_better pick found (version_of (entry m).key) ≡ false) → IsFound entry (m + 1) n pick found
  still (Exact v) None m h worse = below_more (λ k. is_named n (entry k) ≡ true → version_of (entry k).key ≢ v) m h (λ named. eqb-false _ v (worse named))
  still (Exact v) (Some f) m h worse = (later m f h.0, h.1)
  still Highest None m h worse = below_more (λ k. is_named n (entry k) ≡ true → ⊥) m h (λ named. let g : true ≡ false = worse named in absurd (cc))
  still Highest (Some f) m h worse = (later m f h.0, below_more (λ k. is_named n (entry k) ≡ true → version_of (entry k).key ≤ f.version) m h.1 (λ named. ltb-false _ _ (worse named)))
  still Lowest None m h worse = below_more (λ k. is_named n (entry k) ≡ true → ⊥) m h (λ named. let g : true ≡ false = worse named in absurd (cc))
  still Lowest (Some f) m h worse = (later m f h.0, below_more (λ k. is_named n (entry k) ≡ true → f.version ≤ version_of (entry k).key) m h.1 (λ named. ltb-false _ _ (worse named)))

  module _ (pick : Pick) where
    record HasFound (m : ℕ) (s : Search) : Type 0 where
      name : s.name ≡ n
      picked : s.pick ≡ pick
      found : IsFound entry m n pick s.found

    one_more : (m : ℕ) (s : Search) → HasFound m s → HasFound (m + 1) (search_after s m (entry m))
    one_more m s h = by (is_named s.name (entry m) && is_better s.pick s.found (version_of (entry m).key)) refl
      where
        named_so : is_named s.name (entry m) ≡ is_named n (entry m)
        named_so = ap (λ x. is_named x (entry m)) h.name

        better_so : is_better s.pick s.found (version_of (entry m).key) ≡ is_better pick s.found (version_of (entry m).key)
        better_so = ap (λ x. is_better x s.found (version_of (entry m).key)) h.picked

        by : (b : Bool) → (is_named s.name (entry m) && is_better s.pick s.found (version_of (entry m).key)) ≡ b
            → HasFound (m + 1) (cond b (record s { found = Some (record { position = m; file = (entry m).file; version = version_of (entry m).key }) }) s)
        by true e =
            let both = and_parts _ _ e in
            record {
              name = h.name;
              picked = h.picked;
              found = (record { below = omega arith; named = sym named_so ∙ both.0; file = refl; version = refl }, best_now pick s.found m h.found (sym better_so ∙ both.1));
            }
        by false e = record {
          name = h.name;
          picked = h.picked;
          found = still pick s.found m h.found (λ named. elim (and_cases _ _ e) [
            | inl off ↦ let g : true ≡ false = sym named ∙ sym named_so ∙ off in absurd (cc)
            | inr off ↦ sym better_so ∙ off
          ]);
        }

    none_yet : (p : Pick) → IsFound entry 0 n p None
    none_yet (Exact v) = λ k below named. absurd (omega arith)
    none_yet Highest = λ k below named. absurd (omega arith)
    none_yet Lowest = λ k below named. absurd (omega arith)

    -- a pass that begins with nothing ends with what the pick means among the first m entries
    pub meant_found : (m : ℕ) (s t : Search) → s ≡ record { name = n; pick = pick; found = None } → t ≡ fold (λ s k. search_after s k (entry k)) s (range_with_len 0 m) → IsFound entry m n pick t.found
    meant_found m s t first e =
        let step = λ (u : Search) (k : ℕ). search_after u k (entry k) in
        let start : HasFound 0 s = subst (HasFound 0) (sym first) (record { name = refl; picked = refl; found = none_yet pick }) in
        (subst (HasFound m) (sym e) (fold_keeps HasFound step s m start one_more)).found
