-- The lines of a directory's map are those of its used entries, in another order.
use Rattle.std.proofs.Common.{◌≡◌, ℕ, suc, Bool, true, List, [], ◌∷◌, length, map, Some, None, refl, sym, ap, ◌∙◌, subst, arith, cond}
use Rattle.std.specs.declared.cmp.Ordering.{Ordering}
use Rattle.std.specs.declared.cmp.Ordering.TheVariants.{Less, Equal, Greater}
use Rattle.std.specs.Ordering.{nat_cmp, is_eq}
use Rattle.std.specs.FinMap.Entries.{by_order}
use Rattle.std.specs.List.{All, cons_option}
use Rattle.std.proofs.lemmas.List.Elements.{All-head, All-tail}
use Rattle.std.specs.List.Sorted.{IsPermutation}
use Rattle.std.specs.Cmp.Lexicographic.{slice_cmp, nat_list_cmp_total}
use Rattle.std.specs.FinMap as names
use Rattle.std.specs.FinMap.{entries-insert, get-entries, get-from_entries, len-empty, put}
use Rattle.std.proofs.lemmas.List.Sorted.{IsPermutation-cons, IsPermutation-refl, IsPermutation-sym, IsPermutation-trans, IsPermutation-swap, IsPermutation-map}
use Rattle.ods_base.specs.declared.file_id.FileId.{FileId}
use Rattle.ods_base.specs.declared.listed.Listed.{Listed}
use Rattle.ods_base.specs.Names.{NameMap, name_of, version_of, lines_of}
use Rattle.ods_directory.specs.Entry.{Entry, IsGoodEntry, is_good, used_entries}
use Rattle.ods_directory.specs.Lines.{good_lines, line_of}
use Rattle.ods_directory.specs.Names.{AreDistinct, GoodLinesAreNames, IsDirectory, names_of}
use Rattle.ods_directory.proofs.Checked.{test_of_good}
use Rattle.ods_directory.proofs.Keyed.{find}
use Rattle.ods_directory.proofs.Lookups.{entry_pairs, find_absent}

abbrev Pair : Type 0
Pair = List ℕ × FileId

-- of good entries the good lines are all
good_ones : (es : List Entry) → All IsGoodEntry es → good_lines es ≡ map line_of es
good_ones [] good = refl
good_ones (e ∷ es) good =
    let rest = good_ones es (All-tail IsGoodEntry e es good) in
    ap (λ (b : Bool). cons_option (cond b (Some (line_of e)) None) (good_lines es)) (test_of_good e (All-head IsGoodEntry e es good)) ∙ ap (λ ls. line_of e ∷ ls) rest

-- the first two of a list change places
two_swapped : (a b : Pair) (es : List Pair) → IsPermutation (a ∷ b ∷ es) (b ∷ a ∷ es)
two_swapped a b es = IsPermutation-swap (a ∷ b ∷ es) (b ∷ a ∷ es) 0 1 (omega arith) (omega arith) refl

-- a new key goes to its place among the others
put_permuted : (k : List ℕ) (v : FileId) (es : List Pair) → find k es ≡ None → IsPermutation ((k, v) ∷ es) (put (slice_cmp nat_cmp) k v es)
put_permuted k v [] none = IsPermutation-refl ((k, v) ∷ [])
put_permuted k v (e ∷ es) none = by (slice_cmp nat_cmp k e.0) none (put_permuted k v es)
  where
    by : (o : Ordering) → cond (is_eq o) (Some e.1) (find k es) ≡ None → (find k es ≡ None → IsPermutation ((k, v) ∷ es) (put (slice_cmp nat_cmp) k v es))
        → IsPermutation ((k, v) ∷ e ∷ es) (by_order o ((k, v) ∷ e ∷ es) ((e.0, v) ∷ es) (e ∷ put (slice_cmp nat_cmp) k v es))
    by Less absent rest = IsPermutation-refl ((k, v) ∷ e ∷ es)
    by Equal absent rest = absurd (cc)
    by Greater absent rest =
        IsPermutation-trans ((k, v) ∷ e ∷ es) (e ∷ (k, v) ∷ es) (e ∷ put (slice_cmp nat_cmp) k v es) (two_swapped (k, v) e es)
        (IsPermutation-cons e ((k, v) ∷ es) (put (slice_cmp nat_cmp) k v es) (rest absent))

length_none : (es : List Pair) → length es ≡ 0 → es ≡ []
length_none [] none = refl
length_none (e ∷ es) none = absurd (omega (arith, none))

-- the pairs of entries, of which no two have one key, are those of their map
pairs_permuted : (es : List Entry) → AreDistinct es → IsPermutation (entry_pairs es) (names.entries (names.from_entries {R = slice_cmp nat_cmp} (entry_pairs es)))
pairs_permuted [] distinct = subst (IsPermutation []) (sym none_there) (IsPermutation-refl [])
  where
    m : NameMap
    m = names.empty

    none_there : names.entries m ≡ []
    none_there = length_none (names.entries m) (sym (names.len-entries m) ∙ len-empty (slice_cmp nat_cmp) FileId)
pairs_permuted (e ∷ es) distinct =
    let rest : NameMap = names.from_entries (entry_pairs es) in
    let tail : AreDistinct es = λ i j below d f there here. distinct (suc i) (suc j) (omega arith) d f there here in
    let absent : find e.key (entry_pairs es) ≡ None = find_absent es e.key (λ i d there same. distinct 0 (suc i) (omega arith) e d refl there (sym same)) in
    let before = pairs_permuted es tail in
    let none : find e.key (names.entries rest) ≡ None = sym (get-entries rest e.key) ∙ get-from_entries nat_list_cmp_total (entry_pairs es) e.key ∙ absent in
    let first = IsPermutation-cons (e.key, e.file) (entry_pairs es) (names.entries rest) before in
    let put_in = put_permuted e.key e.file (names.entries rest) none in
    subst (IsPermutation ((e.key, e.file) ∷ entry_pairs es)) (sym (entries-insert nat_list_cmp_total rest e.key e.file))
    (IsPermutation-trans ((e.key, e.file) ∷ entry_pairs es) ((e.key, e.file) ∷ names.entries rest) (put (slice_cmp nat_cmp) e.key e.file (names.entries rest)) first put_in)

-- the line of a pair
abbrev line : Pair → Listed
line p = record { name = name_of p.0; version = version_of p.0; file = p.1 }

lines_of_pairs : (es : List Entry) → map line (entry_pairs es) ≡ map line_of es
lines_of_pairs [] = refl
lines_of_pairs (e ∷ es) = ap (λ ls. line_of e ∷ ls) (lines_of_pairs es)

module _ (blocks : List (List ℕ)) (mark : ℕ) (directory : IsDirectory blocks mark) where
  -- the lines of its used entries, in another order
  lines_permuted : IsPermutation (map line_of (used_entries blocks mark)) (lines_of (names_of blocks mark))
  unfolding names_of
  lines_permuted =
      let used = used_entries blocks mark in
      let m : NameMap = names.from_entries (entry_pairs used) in
      subst (λ ls. IsPermutation ls (map line (names.entries m))) (lines_of_pairs used)
      (IsPermutation-map line (entry_pairs used) (names.entries m) (pairs_permuted used directory.distinct))

pub good_lines_are_names : GoodLinesAreNames
good_lines_are_names blocks mark directory =
    subst (λ ls. IsPermutation ls (lines_of (names_of blocks mark))) (sym (good_ones (used_entries blocks mark) directory.good)) (lines_permuted blocks mark directory)
