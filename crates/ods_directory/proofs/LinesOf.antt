-- The lines of a directory's used entries.
use Rattle.std.proofs.Common.{◌≡◌, ℕ, zero, suc, ◌+◌, ◌/◌, true, List, [], ◌∷◌, map, length, get_or, Some, refl, sym, ap, ◌∙◌, subst, arith}
use Rattle.std.specs.List.{slice_get, All}
use Rattle.std.specs.List.Sorted.{IsPermutation}
use Rattle.std.specs.Ordering.{nat_cmp}
use Rattle.std.specs.Prelude.{T}
use Rattle.std.specs.Cmp.Lexicographic.{slice_cmp, nat_list_cmp_total}
use Rattle.std.specs.FinMap as names
use Rattle.std.specs.FinMap.{same_map, is_sorted, entries-from_sorted, get-from_sorted, slice_cmp-IsAntisymmetric, nat_cmp-IsAntisymmetric}
use Rattle.std.proofs.lemmas.List.Sorted.{IsPermutation-sym, All-permutation}
use Rattle.std.proofs.lemmas.List.Elements.{All-head, All-tail}
use Rattle.std.proofs.lemmas.Option.{same_Some, slice_get-get_or}
use Rattle.ods_base.specs.declared.file_id.FileId.{FileId}
use Rattle.ods_base.specs.declared.listed.Listed.{Listed}
use Rattle.ods_base.specs.Names.{name_of, version_of, lines_of}
use Rattle.ods_directory.specs.Entry.{Entry, entry_at, used_entries}
use Rattle.ods_directory.specs.Lines.{line_of, line_key, IsInOrder, HasNoTwinNeighbours}
use Rattle.ods_directory.specs.Names.{AreDistinct, HasTwins, IsDirectory, names_of, HasTwoOf}
use Rattle.ods_directory.proofs.InOrder.{strictly_sorted, no_twins}
use Rattle.ods_directory.proofs.Keyed.{find, pairs, HasNoTwins, find_permuted, two_moved, taken_to}
use Rattle.ods_directory.proofs.Lookups.{entry_pairs, get_names}
use Rattle.ods_directory.proofs.Used.{used_among, used_entries-is}

abbrev line_file : Listed → FileId
line_file line = line.file

-- the line of an entry that has a key of five words has that key
key_of_line : (key : List ℕ) (file : FileId) (volume : ℕ) → length key ≡ 5 → line_key (line_of (record { file = file; volume = volume; key = key })) ≡ key
key_of_line [] file volume five = absurd (cc)
key_of_line (a ∷ []) file volume five = absurd (omega (arith, five))
key_of_line (a ∷ b ∷ []) file volume five = absurd (omega (arith, five))
key_of_line (a ∷ b ∷ c ∷ []) file volume five = absurd (omega (arith, five))
key_of_line (a ∷ b ∷ c ∷ d ∷ []) file volume five = absurd (omega (arith, five))
key_of_line (a ∷ b ∷ c ∷ d ∷ v ∷ []) file volume five = refl
key_of_line (a ∷ b ∷ c ∷ d ∷ v ∷ w ∷ ws) file volume five = absurd (omega (arith, five))

-- each of these entries has a key of five words
abbrev HaveFive : List Entry → Type 0
HaveFive es = (i : ℕ) (e : Entry) → slice_get es i ≡ Some e → length e.key ≡ 5

five_words : (blocks : List (List ℕ)) (mark : ℕ) → HaveFive (used_entries blocks mark)
five_words blocks mark i e there =
    let g = used_among (entry_at blocks) 0 (mark / 16) e i (subst (λ es. slice_get es i ≡ Some e) (used_entries-is blocks mark) there) in
    ap (λ x. length x.key) (sym g.same)

module _ (es : List Entry) (five : HaveFive es) where
  key_at : (i : ℕ) (e : Entry) → slice_get es i ≡ Some e → line_key (line_of e) ≡ e.key
  key_at i e there = key_of_line e.key e.file e.volume (five i e there)

  twins_of_lines : HasTwoOf line_key (map line_of es) → HasTwins es
  twins_of_lines h =
      let one = taken_to line_of es h.i h.one h.first in
      let other = taken_to line_of es h.j h.other h.second in
      record {
        i = h.i;
        j = h.j;
        apart = h.apart;
        one = one.element;
        other = other.element;
        first = one.there;
        second = other.there;
        same = sym (key_at h.i one.element one.there) ∙ ap line_key one.same ∙ h.same ∙ ap line_key (sym other.same) ∙ key_at h.j other.element other.there;
      }

  lines_of_distinct : AreDistinct es → HasTwoOf line_key (map line_of es) → ⊥
  lines_of_distinct distinct h = let t = twins_of_lines h in distinct t.i t.j t.apart t.one t.other t.first t.second t.same

-- a line says its key
abbrev IsSpelled : Listed → Type 0
IsSpelled line = (name_of (line_key line) ≡ line.name) × (version_of (line_key line) ≡ line.version)

spelled : (e : Entry) → length e.key ≡ 5 → IsSpelled (line_of e)
spelled e five =
    let same = key_of_line e.key e.file e.volume five in
    (ap name_of same, ap version_of same)

respelled : (lines : List Listed) → All IsSpelled lines → map (λ e. record { name = name_of e.0; version = version_of e.0; file = e.1 }) (pairs line_key line_file lines) ≡ lines
respelled [] all = refl
respelled (x ∷ lines) all =
    let head = All-head IsSpelled x lines all in
    let name = head.0 in
    let version = head.1 in
    let rest = respelled lines (All-tail IsSpelled x lines all) in
    λ i. record { name = name i; version = version i; file = x.file } ∷ rest i

same_pairs : (es : List Entry) → HaveFive es → entry_pairs es ≡ pairs line_key line_file (map line_of es)
same_pairs [] five = refl
same_pairs (e ∷ es) five =
    let key : e.key ≡ line_key (line_of e) = sym (key_of_line e.key e.file e.volume (five 0 e refl)) in
    let rest = same_pairs es (λ i f there. five (suc i) f there) in
    λ i. (key i, e.file) ∷ rest i

all_spelled : (es : List Entry) → HaveFive es → All IsSpelled (map line_of es)
all_spelled es five k d below =
    let line = taken_to line_of es k (get_or (map line_of es) k d) (slice_get-get_or (map line_of es) k d below) in
    subst IsSpelled line.same (spelled line.element (five k line.element line.there))

-- the lines of the used entries, put into order
module _ (blocks : List (List ℕ)) (mark : ℕ) (lines : List Listed) (permuted : IsPermutation (map line_of (used_entries blocks mark)) lines) (order : IsInOrder line_key lines) where
  es : List Entry
  es = used_entries blocks mark

  back : IsPermutation lines (map line_of (used_entries blocks mark))
  back = IsPermutation-sym (map line_of (used_entries blocks mark)) lines permuted

  module _ (directory : IsDirectory blocks mark) where
    alone_before : HasTwoOf line_key (map line_of (used_entries blocks mark)) → ⊥
    alone_before = lines_of_distinct (used_entries blocks mark) (five_words blocks mark) directory.distinct

    no_twins_before : HasNoTwins line_key line_file (map line_of (used_entries blocks mark))
    no_twins_before i j apart one other first second same = alone_before (record { i = i; j = j; apart = apart; one = one; other = other; first = first; second = second; same = same })

    alone_now : HasNoTwinNeighbours line_key lines (length lines)
    alone_now k high one other first second same = alone_before (two_moved line_key lines (map line_of (used_entries blocks mark)) back (record {
      i = k;
      j = k + 1;
      apart = omega arith;
      one = one;
      other = other;
      first = first;
      second = second;
      same = same;
    }))

    sorted : is_sorted (slice_cmp nat_cmp) (pairs line_key line_file lines) ≡ true
    sorted = strictly_sorted line_key line_file lines order alone_now

    is_sorted_so : T (is_sorted (slice_cmp nat_cmp) (pairs line_key line_file lines))
    is_sorted_so = subst T (sym sorted) tt

    names_sorted : names_of blocks mark ≡ names.from_sorted (pairs line_key line_file lines)
    names_sorted = same_map nat_list_cmp_total (slice_cmp-IsAntisymmetric nat_cmp-IsAntisymmetric) _ _ (λ q.
        get_names blocks mark q ∙ ap (find q) (same_pairs (used_entries blocks mark) (five_words blocks mark))
        ∙ find_permuted line_key line_file (map line_of (used_entries blocks mark)) lines q permuted back no_twins_before (no_twins line_key line_file lines sorted)
        ∙ sym (get-from_sorted (slice_cmp nat_cmp) (pairs line_key line_file lines) q is_sorted_so))

    -- the lines in order are those of the map
    pub lines_found : lines ≡ lines_of (names_of blocks mark)
    lines_found =
        let all : All IsSpelled lines = All-permutation IsSpelled (map line_of (used_entries blocks mark)) lines permuted (all_spelled (used_entries blocks mark) (five_words blocks mark)) in
        let entries : names.entries (names_of blocks mark) ≡ pairs line_key line_file lines = ap names.entries names_sorted ∙ entries-from_sorted (slice_cmp nat_cmp) (pairs line_key line_file lines) is_sorted_so in
        sym (ap (map (λ e. record { name = name_of e.0; version = version_of e.0; file = e.1 })) entries ∙ respelled lines all)
