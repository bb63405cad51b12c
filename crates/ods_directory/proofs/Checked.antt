-- What the check of a directory finds.
use Rattle.std.proofs.Common.{◌≡◌, ℕ, zero, suc, ◌+◌, ◌-◌, ◌*◌, ◌/◌, ◌%◌, ◌<◌, ◌≤◌, min, Bool, true, false, cond, not, ◌&&◌, ltb, leb, List, [], ◌∷◌, ◌++◌, length, Option, Some, None, is_some, slice_index, refl, sym, ap, ◌∙◌, arith}
use Rattle.std.specs.List.{All, slice_get}
use Rattle.std.specs.Prelude.{MatchBool}
use Rattle.std.proofs.lemmas.Bool.{ltb-true, leb-true, leb-false, eqb-true, eq-eqb, lt-ltb, le-leb, and_parts, and_from}
use Rattle.std.proofs.lemmas.List.{append-nil, get_or_past}
use Rattle.ods_directory.specs.declared.first.Kind.TheVariants.{Bad}
use Rattle.ods_directory.specs.Entry.{Entry, IsGoodEntry, is_used, is_good, entry_in, entry_at, used_entries}
use Rattle.ods_directory.specs.First.{IsFirst}
use Rattle.ods_directory.specs.Names.{HasBadEntry}
use Rattle.ods_directory.proofs.Blockwise.{used_from-split}
use Rattle.ods_directory.proofs.Used.{used_from, among_used, used_entries-is, good_from_positions}

-- the test and the fact
good_of_test : (e : Entry) → is_good e ≡ true → IsGoodEntry e
good_of_test e h =
    let seven = and_parts _ _ h in
    let six = and_parts _ _ seven.0 in
    let five = and_parts _ _ six.0 in
    let four = and_parts _ _ five.0 in
    let three = and_parts _ _ four.0 in
    let two = and_parts _ _ three.0 in
    record {
      words = words two.0 two.1 three.1 four.1;
      some = leb-true _ _ five.1;
      most = leb-true _ _ six.1;
      volume = eqb-true _ _ seven.1;
    }
  where
    words : ltb (slice_index e.key 0) 64000 ≡ true → ltb (slice_index e.key 1) 64000 ≡ true → ltb (slice_index e.key 2) 64000 ≡ true → ltb (slice_index e.key 3) 64000 ≡ true → (i : ℕ) → i < 4 → slice_index e.key i < 64000
    words a b c d zero below = ltb-true _ _ a
    words a b c d (suc zero) below = ltb-true _ _ b
    words a b c d (suc (suc zero)) below = ltb-true _ _ c
    words a b c d (suc (suc (suc zero))) below = ltb-true _ _ d
    words a b c d (suc (suc (suc (suc i)))) below = absurd (omega arith)

pub test_of_good : (e : Entry) → IsGoodEntry e → is_good e ≡ true
test_of_good e h =
    and_from _ _ (and_from _ _ (and_from _ _ (and_from _ _ (and_from _ _ (and_from _ _ (lt-ltb _ _ (h.words 0 (omega arith))) (lt-ltb _ _ (h.words 1 (omega arith)))) (lt-ltb _ _ (h.words 2 (omega arith)))) (lt-ltb _ _ (h.words 3 (omega arith))))
    (le-leb _ _ h.some)) (le-leb _ _ h.most)) (eq-eqb _ _ h.volume)

no_fault : (used good : Bool) → (used && not good) ≡ false → used ≡ true → good ≡ true
no_fault true true h u = refl
no_fault true false h u = absurd (cc)
no_fault false good h u = absurd (cc)

a_fault : (used good : Bool) → (used && not good) ≡ true → (used ≡ true) × (good ≡ false)
a_fault true true h = absurd (cc)
a_fault true false h = (refl, refl)
a_fault false good h = absurd (cc)

module _ (blocks : List (List ℕ)) (mark : ℕ) where
  -- there is no first bad entry: all are good
  all_good : (position : Option ℕ) → IsFirst Bad (entry_at blocks) (mark / 16) position → is_some position ≡ false → All IsGoodEntry (used_entries blocks mark)
  all_good (Some k) h none = absurd (cc)
  all_good None h none = good_from_positions blocks mark (λ k below used. good_of_test (entry_at blocks k) (no_fault (is_used (entry_at blocks k)) (is_good (entry_at blocks k)) (h k below) used))

  -- there is a first bad entry
  one_bad : (position : Option ℕ) → IsFirst Bad (entry_at blocks) (mark / 16) position → is_some position ≡ true → HasBadEntry (used_entries blocks mark)
  one_bad None h some = absurd (cc)
  one_bad (Some k) h some =
      let fault = a_fault (is_used (entry_at blocks k)) (is_good (entry_at blocks k)) h.1 in
      let inside : k < mark / 16 = h.0 in
      let there = among_used (entry_at blocks) 0 (mark / 16) k (omega arith) (omega arith) fault.0 in
      record {
        i = there.at;
        entry = entry_at blocks k;
        found = ap (λ es. slice_get es there.at) (used_entries-is blocks mark) ∙ there.there;
        bad = λ good. let clash : true ≡ false = sym (test_of_good (entry_at blocks k) good) ∙ fault.1 in absurd (cc);
      }

  pub badness : (position : Option ℕ) (b : Bool) → IsFirst Bad (entry_at blocks) (mark / 16) position → b ≡ is_some position → MatchBool b (HasBadEntry (used_entries blocks mark)) (All IsGoodEntry (used_entries blocks mark))
  badness position true h is = one_bad position h (sym is)
  badness position false h is = all_good position h (sym is)

  -- an entry past the blocks is empty
  past_unused : (k : ℕ) → length blocks ≤ k / 32 → is_used (entry_at blocks k) ≡ false
  past_unused k past = ap (λ b. is_used (entry_in b (k % 32))) (get_or_past blocks (k / 32) [] past)

  none_past : (a n : ℕ) → length blocks ≤ a / 32 → used_from (entry_at blocks) a n ≡ []
  none_past a zero past = refl
  none_past a (suc n) past =
      ap (λ b. cond b (entry_at blocks a ∷ used_from (entry_at blocks) (a + 1) n) (used_from (entry_at blocks) (a + 1) n)) (past_unused a past) ∙ none_past (a + 1) n (omega arith)

  -- none is past a mark that is cut
  rest : (b : Bool) → leb mark (512 * length blocks) ≡ b → used_from (entry_at blocks) (min mark (512 * length blocks) / 16) (mark / 16 - min mark (512 * length blocks) / 16) ≡ []
  rest true e =
      let within : mark ≤ 512 * length blocks = leb-true mark (512 * length blocks) e in
      let none : mark / 16 - min mark (512 * length blocks) / 16 ≡ 0 = omega arith in
      ap (used_from (entry_at blocks) (min mark (512 * length blocks) / 16)) none
  rest false e =
      let past : 512 * length blocks < mark = leb-false mark (512 * length blocks) e in
      none_past (min mark (512 * length blocks) / 16) (mark / 16 - min mark (512 * length blocks) / 16) (omega arith)

  -- a mark past the blocks is as good as one at their end
  pub used_cut : used_entries blocks (min mark (512 * length blocks)) ≡ used_entries blocks mark
  used_cut =
      let cut = min mark (512 * length blocks) in
      let whole : cut / 16 + (mark / 16 - cut / 16) ≡ mark / 16 = omega arith in
      let at : 0 + cut / 16 ≡ cut / 16 = omega arith in
      used_entries-is blocks cut ∙ sym (append-nil (used_from (entry_at blocks) 0 (cut / 16)))
      ∙ ap (λ es. used_from (entry_at blocks) 0 (cut / 16) ++ es) (sym (rest (leb mark (512 * length blocks)) refl))
      ∙ ap (λ a. used_from (entry_at blocks) 0 (cut / 16) ++ used_from (entry_at blocks) a (mark / 16 - cut / 16)) (sym at)
      ∙ sym (used_from-split (entry_at blocks) 0 (cut / 16) (mark / 16 - cut / 16)) ∙ ap (used_from (entry_at blocks) 0) whole ∙ sym (used_entries-is blocks mark)

  pub used_same : (cut wide count : ℕ) → cut ≡ min mark (512 * wide) → wide ≡ count → count ≡ length blocks → used_entries blocks cut ≡ used_entries blocks mark
  used_same cut wide count is wide_is count_is = ap (used_entries blocks) (is ∙ ap (λ n. min mark (512 * n)) (wide_is ∙ count_is)) ∙ used_cut
