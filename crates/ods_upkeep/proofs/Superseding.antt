-- Which versions of names go: names are counted from the last one on.
use Rattle.std.proofs.Common.{◌≡◌, ◌≢◌, ◌+◌, ◌<◌, ◌≤◌, ◌⊎◌, ◌∙◌, ◌&&◌, not, refl, ap, sym, subst, inl, inr, ℕ, Bool, true, false, cond, List, [], ◌∷◌, ◌++◌, Option, Some, None, min, arith}
use Rattle.std.specs.Prelude.{nat_le, reverse, unwrap_or}
use Rattle.std.specs.List.{All}
use Rattle.std.specs.Borrow.{Bor}
use Rattle.std.specs.Str.{bytes_eq}
use Rattle.std.specs.Ordering.{nat_cmp, is_eq}
use Rattle.std.specs.Cmp.Lexicographic.{slice_cmp}
use Rattle.std.specs.BTreeMap as tree
use Rattle.std.specs.BTreeMap.{BTreeMap}
use Rattle.std.proofs.lemmas.List.{reverse-append}
use Rattle.std.proofs.lemmas.Map.Lookups.{exact_bytes}
use Rattle.std.proofs.lemmas.Map.Text.{is_eq-slice_cmp}
use Rattle.ods_shell.specs.Passed.{is_passed_over}
use Rattle.ods_shell.specs.declared.found.Found.{Found}
use Rattle.ods_upkeep.specs.NameCounts.{AreCounted, IsCountedAlso, NameCounts, count_in, most}
use Rattle.ods_upkeep.specs.Purged.{count_named, goes, name_key, superseded}
use Rattle.ods_upkeep.proofs.Noting.{is_equal, itself}

-- a name is counted by an update at its key
pub counted_by : (old new : BTreeMap (List ℕ) ℕ) (name : List ℕ) (count : ℕ) → count ≡ min (count_in old.entries name + 1) most → tree.Updates (slice_cmp nat_cmp) old new name (Some count)
    → IsCountedAlso old.entries name new.entries
counted_by old new name count is updates = record { here = here; others = others }
  where
    here : count_in new.entries name ≡ min (count_in old.entries name + 1) most
    here = ap (λ o. unwrap_or o 0) (updates.0 name ∙ ap (λ b. cond b (Some count) (tree.get (slice_cmp nat_cmp) old name)) (itself name)) ∙ is

    others : (other : List ℕ) → other ≢ name → count_in new.entries other ≡ count_in old.entries other
    others other apart = by (is_eq (slice_cmp nat_cmp name other)) refl
      where
        by : (r : Bool) → is_eq (slice_cmp nat_cmp name other) ≡ r → count_in new.entries other ≡ count_in old.entries other
        by true e = absurd (apart (sym (exact_bytes name other (is_equal (slice_cmp nat_cmp name other) e))))
        by false e = ap (λ o. unwrap_or o 0) (updates.0 other ∙ ap (λ b. cond b (Some count) (tree.get (slice_cmp nat_cmp) old other)) e)

-- one more is counted
pub counted_more : (old new : NameCounts) (seen : List Found) (f : Found) → AreCounted old seen → IsCountedAlso old (name_key f.place) new → AreCounted new (f ∷ seen)
counted_more old new seen f are also name = by (bytes_eq (name_key f.place) name) refl
  where
    key : List ℕ
    key = name_key f.place

    by : (b : Bool) → bytes_eq key name ≡ b → count_in new name ≡ min (cond b (count_named name seen + 1) (count_named name seen)) most
    by true e =
        let same : key ≡ name = exact_bytes key name (is_equal (slice_cmp nat_cmp key name) (is_eq-slice_cmp key name ∙ e)) in
        subst (λ n. count_in new n ≡ min (count_named n seen + 1) most) same (one (count_in new key) (count_in old key) (count_named key seen) also.here (are key))
      where
        one : (a b n : ℕ) → a ≡ min (b + 1) most → b ≡ min n most → a ≡ min (n + 1) most
        one a b n e f = omega (arith, e, f)
    by false e =
        let apart : name ≢ key = λ same. (let both : false ≡ true = sym e ∙ sym (is_eq-slice_cmp key name) ∙ (ap (λ n. is_eq (slice_cmp nat_cmp key n)) same ∙ itself key) in absurd (cc)) in
        also.others name apart ∙ are name

-- none is counted at first
pub none_counted : (counts : NameCounts) → counts ≡ [] → AreCounted counts []
none_counted counts empty name = ap (λ n. count_in n name) empty

-- This one goes, where so many of its name came before.
pub one_goes : (keep : ℕ) (f : Found) (seen before after : List Found) (behind : ℕ) → behind ≡ min (count_named (name_key f.place) seen) most → keep ≤ most → keep ≤ behind → is_passed_over f.facts ≡ false
    → before ≡ reverse (superseded keep seen) → after ≡ before ++ f ∷ [] → after ≡ reverse (superseded keep (f ∷ seen))
one_goes keep f seen before after behind is small many plain so_far more =
    more ∙ ap (λ l. l ++ f ∷ []) so_far ∙ sym (reverse-append (f ∷ []) (superseded keep seen)) ∙ ap (λ b. reverse (cond b (f ∷ superseded keep seen) (superseded keep seen))) (sym both)
  where
    enough : keep ≤ count_named (name_key f.place) seen
    enough = omega (arith, is, small, many)

    both : goes keep f seen ≡ true
    both = ap (λ b. nat_le keep (count_named (name_key f.place) seen) && not b) plain ∙ (search (arith, enough))

-- And this one stays, where fewer did, or it is passed over.
pub one_stays : (keep : ℕ) (f : Found) (seen before : List Found) (behind : ℕ) → behind ≡ min (count_named (name_key f.place) seen) most → keep ≤ most
    → (behind < keep) ⊎ (is_passed_over f.facts ≡ true) → before ≡ reverse (superseded keep seen) → before ≡ reverse (superseded keep (f ∷ seen))
one_stays keep f seen before behind is small why so_far = so_far ∙ ap (λ b. reverse (cond b (f ∷ superseded keep seen) (superseded keep seen))) (sym (stays why))
  where
    stays : (behind < keep) ⊎ (is_passed_over f.facts ≡ true) → goes keep f seen ≡ false
    stays (inl few) = ap (λ b. b && not (is_passed_over f.facts)) (fewer (omega (arith, is, small, few)))
      where
        fewer : count_named (name_key f.place) seen < keep → nat_le keep (count_named (name_key f.place) seen) ≡ false
        fewer less = search (arith, less)
    stays (inr passed) = ap (λ b. nat_le keep (count_named (name_key f.place) seen) && not b) passed ∙ neither (nat_le keep (count_named (name_key f.place) seen))
      where
        neither : (b : Bool) → (b && false) ≡ false
        neither true = refl
        neither false = refl
