-- The lines of a directory by their keys: each has one, and they stand in the order of these.
use Rattle.std.proofs.Common.{◌≡◌, ℕ, zero, suc, ◌/◌, ◌<◌, refl, sym, ap, ◌∙◌, subst, Bool, true, false, List, [], ◌∷◌, Some, arith}
use Rattle.std.specs.Prelude.{T, slice_get}
use Rattle.std.specs.List.{All, Contains}
use Rattle.std.specs.declared.cmp.Ordering.{Ordering}
use Rattle.std.specs.declared.cmp.Ordering.TheVariants.{Less, Equal, Greater}
use Rattle.std.specs.Ordering.{is_lt, nat_cmp}
use Rattle.std.specs.Cmp.Lexicographic.{slice_cmp}
use Rattle.std.specs.FinMap as names
use Rattle.std.specs.FinMap.Entries.{below_all}
use Rattle.std.proofs.lemmas.Bool.{and_parts}
use Rattle.std.proofs.lemmas.List.Elements.{All-cons, All-nil}
use Rattle.std.proofs.lemmas.Option.{get_or_from_slice_get, same_Some, slice_get-get_or, slice_get_within}
use Rattle.ods_base.specs.declared.file_id.FileId.{FileId}
use Rattle.ods_base.specs.declared.listed.Listed.{Listed}
use Rattle.ods_base.specs.Name.{IsName, key_of}
use Rattle.ods_base.specs.Names.{NameMap, lines_of, name_of, version_of}
use Rattle.ods_directory.specs.Entry.{IsGoodEntry, entry_at, used_entries}
use Rattle.ods_directory.specs.Names.{IsDirectory, names_of}
use Rattle.ods_directory.proofs.InOrder.{no_twins}
use Rattle.ods_directory.proofs.Keyed.{find, find_among, find_element, map_at, pairs, taken_to}
use Rattle.ods_directory.proofs.Lookups.{entry_of_name}
use Rattle.ods_directory.proofs.Used.{among_used, used_entries-is}
use Rattle.ods_check.specs.Findings.{ComesBefore}
use Rattle.ods_check.specs.Lists.{AreInOrder}
use Rattle.ods_check.proofs.Turning.{at_place}

abbrev Pair : Type 0
Pair = List ℕ × FileId

-- the line of an entry
abbrev pub line_by : Pair → Listed
line_by p = record { name = name_of p.0; version = version_of p.0; file = p.1 }

as_they_are : (es : List Pair) → pairs (λ (p : Pair). p.0) (λ (p : Pair). p.1) es ≡ es
as_they_are [] = refl
as_they_are (e ∷ es) = ap (λ l. e ∷ l) (as_they_are es)

true_by : (b : Bool) → T b → b ≡ true
true_by true t = refl
true_by false t = absurd t

sorted_pairs : (m : NameMap) → names.is_sorted (slice_cmp nat_cmp) (pairs (λ (p : Pair). p.0) (λ (p : Pair). p.1) (names.entries m)) ≡ true
sorted_pairs m = ap (names.is_sorted (slice_cmp nat_cmp)) (as_they_are (names.entries m)) ∙ true_by (names.is_sorted (slice_cmp nat_cmp) (names.entries m)) (names.entries_sorted m)

-- an entry is what the map has at its key
entry_there : (m : NameMap) (i : ℕ) (e : Pair) → slice_get (names.entries m) i ≡ Some e → names.get m e.0 ≡ Some e.1
entry_there m i e there =
    let es : List Pair = names.entries m in
    names.get-entries m e.0 ∙ ap (find e.0) (sym (as_they_are es))
    ∙ find_among (λ (p : Pair). p.0) (λ (p : Pair). p.1) es e i (no_twins (λ (p : Pair). p.0) (λ (p : Pair). p.1) es (sorted_pairs m)) there

is_less : (r : Ordering) → is_lt r ≡ true → r ≡ Less
is_less Less h = refl
is_less Equal h = absurd (cc)
is_less Greater h = absurd (cc)

-- a key below all of these is below each of them
below_at : (k : List ℕ) (es : List Pair) → below_all (slice_cmp nat_cmp) k es ≡ true → (j : ℕ) (q : Pair) → slice_get es j ≡ Some q → slice_cmp nat_cmp k q.0 ≡ Less
below_at k [] h j q at = absurd (let within = slice_get_within [] j q at in omega arith)
below_at k (e ∷ es) h zero q at = ap (λ (p : Pair). slice_cmp nat_cmp k p.0) (sym (same_Some e q at)) ∙ is_less (slice_cmp nat_cmp k e.0) (and_parts (is_lt (slice_cmp nat_cmp k e.0)) (below_all (slice_cmp nat_cmp) k es) h).0
below_at k (e ∷ es) h (suc j) q at = below_at k es (and_parts (is_lt (slice_cmp nat_cmp k e.0)) (below_all (slice_cmp nat_cmp) k es) h).1 j q at

-- of two entries in order the first has the lower key
sorted_at : (es : List Pair) → names.is_sorted (slice_cmp nat_cmp) es ≡ true → (i j : ℕ) (p q : Pair) → slice_get es i ≡ Some p → slice_get es j ≡ Some q → i < j → slice_cmp nat_cmp p.0 q.0 ≡ Less
sorted_at [] h i j p q at also less = absurd (let within = slice_get_within [] i p at in omega arith)
sorted_at (e ∷ es) h i zero p q at also less = absurd (omega (arith, less))
sorted_at (e ∷ es) h zero (suc j) p q at also less =
    ap (λ (x : Pair). slice_cmp nat_cmp x.0 q.0) (sym (same_Some e p at)) ∙ below_at e.0 es (and_parts (below_all (slice_cmp nat_cmp) e.0 es) (names.is_sorted (slice_cmp nat_cmp) es) h).0 j q also
sorted_at (e ∷ es) h (suc i) (suc j) p q at also less = sorted_at es (and_parts (below_all (slice_cmp nat_cmp) e.0 es) (names.is_sorted (slice_cmp nat_cmp) es) h).1 i j p q at also (omega (arith, less))

-- a line with its key
pub record IsKeyed (m : NameMap) (line : Listed) : Type 0 where
  pub key : List ℕ
  pub there : names.get m key ≡ Some line.file
  pub name : name_of key ≡ line.name
  pub version : version_of key ≡ line.version

pub keyed_at : (m : NameMap) (i : ℕ) (line : Listed) → slice_get (lines_of m) i ≡ Some line → IsKeyed m line
keyed_at m i line there =
    let e = taken_to line_by (names.entries m) i line there in
    record { key = e.element.0; there = entry_there m i e.element e.there ∙ ap (λ (l : Listed). Some l.file) e.same; name = ap (λ (l : Listed). l.name) e.same; version = ap (λ (l : Listed). l.version) e.same }

pub keyed : (m : NameMap) (line : Listed) → Contains (lines_of m) line → IsKeyed m line
keyed m line has = keyed_at m has.0 line (slice_get-get_or (lines_of m) has.0 line has.1 ∙ ap Some has.2)

-- what the map has at a key stands in a line
pub line_there : (m : NameMap) (key : List ℕ) (file : FileId) → names.get m key ≡ Some file → Contains (lines_of m) (line_by (key, file))
line_there m key file there =
    let es : List Pair = names.entries m in
    let found = find_element (λ (p : Pair). p.0) (λ (p : Pair). p.1) es key file (ap (find key) (as_they_are es) ∙ sym (names.get-entries m key) ∙ there) in
    let same : line_by found.element ≡ line_by (key, file) = λ i. line_by (found.key_is i, found.file_is i) in
    let at : slice_get (lines_of m) found.at ≡ Some (line_by (key, file)) = map_at line_by es found.at found.element found.there ∙ ap Some same in
    (found.at, slice_get_within (lines_of m) found.at (line_by (key, file)) at, get_or_from_slice_get (lines_of m) found.at (line_by (key, file)) (line_by (key, file)) at)

three_small : (a b c : ℕ) → a < 64000 → b < 64000 → c < 64000 → All (λ w. w < 64000) (a ∷ b ∷ c ∷ [])
three_small a b c x y z = All-cons (λ w. w < 64000) a (b ∷ c ∷ []) x (All-cons (λ w. w < 64000) b (c ∷ []) y (All-cons (λ w. w < 64000) c [] z (All-nil (λ w. w < 64000))))

module _ (blocks : List (List ℕ)) (mark : ℕ) (directory : IsDirectory blocks mark) where
  -- a key is that of a good entry
  pub good_key : (key : List ℕ) (file : FileId) → names.get (names_of blocks mark) key ≡ Some file → IsName (name_of key) × (key_of (name_of key) (version_of key) ≡ key)
  good_key key file there =
      let e = entry_of_name blocks mark key file there in
      let used = among_used (entry_at blocks) 0 (mark / 16) e.at (omega arith) (omega (arith, e.below)) e.used in
      let good : IsGoodEntry (entry_at blocks e.at) = at_place IsGoodEntry (used_entries blocks mark) used.at (entry_at blocks e.at) directory.good (subst (λ es. slice_get es used.at ≡ Some (entry_at blocks e.at)) (sym (used_entries-is blocks mark)) used.there) in
      let name : IsName (name_of (entry_at blocks e.at).key) =
      record {
        three = refl;
        words = three_small _ _ _ (good.words 0 (omega arith)) (good.words 1 (omega arith)) (good.words 2 (omega arith));
        ext = good.words 3 (omega arith);
      } in
      let whole : key_of (name_of (entry_at blocks e.at).key) (version_of (entry_at blocks e.at).key) ≡ (entry_at blocks e.at).key = refl in
      subst (λ k. IsName (name_of k) × (key_of (name_of k) (version_of k) ≡ k)) e.key (name, whole)

  -- the lines of a directory stand in the order of their keys
  pub lines_rising : AreInOrder ComesBefore (lines_of (names_of blocks mark))
  lines_rising i j x y one other less =
      let m : NameMap = names_of blocks mark in
      let es : List Pair = names.entries m in
      let e = taken_to line_by es i x one in
      let f = taken_to line_by es j y other in
      let first = good_key e.element.0 e.element.1 (entry_there m i e.element e.there) in
      let second = good_key f.element.0 f.element.1 (entry_there m j f.element f.there) in
      let key : key_of x.name x.version ≡ e.element.0 = ap (λ (l : Listed). key_of l.name l.version) (sym e.same) ∙ first.1 in
      let behind : key_of y.name y.version ≡ f.element.0 = ap (λ (l : Listed). key_of l.name l.version) (sym f.same) ∙ second.1 in
      (λ k. slice_cmp nat_cmp (key k) (behind k)) ∙ sorted_at es (true_by (names.is_sorted (slice_cmp nat_cmp) es) (names.entries_sorted m)) i j e.element f.element e.there f.there less
