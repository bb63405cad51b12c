-- How many entries name each file: counted entry by entry and directory by directory.
use Rattle.std.proofs.Common.{◌≡◌, ◌⊎◌, inl, inr, ℕ, suc, ◌+◌, ◌-◌, ◌*◌, ◌/◌, ◌^◌, ◌<◌, ◌≤◌, ◌∙◌, refl, sym, ap, subst, Bool, true, false, cond, List, [], ◌∷◌, ◌++◌, length, map, take, get_or, append_assoc, eq-eqb, arith}
use Rattle.std.specs.Prelude.{◌≢◌, ◌==◌, min}
use Rattle.std.specs.List.{range_with_len}
use Rattle.std.specs.FinMap as names
use Rattle.std.proofs.lemmas.Bool.{cases_eq, cases_lt, ne_eqb}
use Rattle.std.proofs.lemmas.List.{length-append, length-map, length_push, length-take-le, take_more}
use Rattle.std.proofs.lemmas.List.FromFn.{length-range_with_len}
use Rattle.std.proofs.lemmas.List.Sorted.{length_permutation}
use Rattle.std.proofs.lemmas.List.Sums.{count_by-le-length, length-filter}
use Rattle.ods_base.specs.Image.{IsImage}
use Rattle.ods_base.specs.Names.{NameMap, lines_of, name_of, version_of}
use Rattle.ods_base.specs.declared.listed.Listed.{Listed}
use Rattle.ods_space.specs.Chain.{index_for}
use Rattle.ods_header.specs.Header.{attributes_of}
use Rattle.ods_space.specs.Layout.{VolumeLayout, header_at}
use Rattle.ods_space.proofs.Sizes.{chain_size}
use Rattle.ods_directory.specs.Mark.{mark_in, end_block, end_byte}
use Rattle.ods_directory.specs.Entry.{Entry, entry_at, is_used, used_entries}
use Rattle.ods_directory.specs.Names.{names_of}
use Rattle.ods_directory.proofs.Lookups.{len_names}
use Rattle.ods_directory.proofs.Marks.{mark_inside}
use Rattle.ods_mount.specs.Faults.{IsDirectoryFile, contents_of, mark_at}
use Rattle.ods_mount.specs.Sound.{IsSoundBy}
use Rattle.ods_walk.specs.Listing.{IsListing}
use Rattle.ods_walk.proofs.Directories.{lists_the_names}
use Rattle.ods_shell.specs.declared.facts.Facts.{Facts}
use Rattle.ods_shell.specs.Choosing.{AreThose}
use Rattle.ods_shell.specs.Facts.{AreFacts}
use Rattle.ods_shell.specs.Found.{AreLinesOf}
use Rattle.ods_upkeep.specs.Counted.{AreCountsOf, AreEntriesTo, NamesFile, one_more}

-- an entry more that is one of those, or is none
those_more : (P : Listed → Type 0) (xs found : List Listed) (x : Listed) → P x → AreThose P xs found → AreThose P (xs ++ x ∷ []) (found ++ x ∷ [])
those_more P [] found x is are = inl (is, [], ap (λ l. l ++ x ∷ []) are, refl)
those_more P (y ∷ xs) found x is are = elim are [
  | inl taken ↦ inl (taken.0, taken.1 ++ x ∷ [], ap (λ l. l ++ x ∷ []) taken.2, those_more P xs taken.1 x is taken.3)
  | inr left ↦ inr (left.0, those_more P xs found x is left.1)
]

those_as_before : (P : Listed → Type 0) (xs found : List Listed) (x : Listed) → ¬ P x → AreThose P xs found → AreThose P (xs ++ x ∷ []) found
those_as_before P [] found x is_not are = inr (is_not, are)
those_as_before P (y ∷ xs) found x is_not are = elim are [
  | inl taken ↦ inl (taken.0, taken.1, taken.2, those_as_before P xs taken.1 x is_not taken.3)
  | inr left ↦ inr (left.0, those_as_before P xs found x is_not left.1)
]

-- those are no more than all
those_few : (P : Listed → Type 0) (xs found : List Listed) → AreThose P xs found → length found ≤ length xs
those_few P [] found are = omega (arith, ap length are)
those_few P (x ∷ xs) found are = elim are [ inl taken ↦ omega (arith, ap length taken.2, those_few P xs taken.1 taken.3) | inr left ↦ omega (arith, those_few P xs found left.1) ]

-- of no entries none names a file
pub counts_none : (I : List (List ℕ)) (L : VolumeLayout) (names : ℕ → ℕ) → ((n : ℕ) → names n ≡ 0) → AreCountsOf I L [] names
counts_none I L names none = λ n small. ([], refl, none n)

module _ (I : List (List ℕ)) (L : VolumeLayout) (entries : List Listed) (e : Listed) (old : ℕ → ℕ) (few : length entries < 2 ^ 63) (counts : AreCountsOf I L entries old) where
  -- an entry more names its file
  pub counts_more : (facts : Facts) → AreFacts I L e.file.number facts → facts.file ≡ e.file → AreCountsOf I L (entries ++ e ∷ []) (one_more old e.file.number)
  counts_more facts are same n small = by (cases_eq n e.file.number)
    where
      before : (those : List Listed) × AreThose (NamesFile I L n) entries those × (old n ≡ length those)
      before = counts n small

      by : (n ≡ e.file.number) ⊎ (n ≡ e.file.number → ⊥) → (those : List Listed) × AreThose (NamesFile I L n) (entries ++ e ∷ []) those × (one_more old e.file.number n ≡ length those)
      by (inl here) =
          let fewer = those_few (NamesFile I L n) entries before.0 before.1 in
          let one : min (old n + 1) 18446744073709551615 ≡ length (before.0 ++ e ∷ []) = omega (arith, length_push before.0 e, before.2) in (
            before.0 ++ e ∷ [],
            those_more (NamesFile I L n) entries before.0 e (record { facts = facts; are = are; same = same; number = sym here }) before.1,
            ap (λ b. cond b (min (old n + 1) 18446744073709551615) (old n)) (eq-eqb n e.file.number here) ∙ one,
          )
      by (inr other) = (
        before.0,
        those_as_before (NamesFile I L n) entries before.0 e (λ is. other (sym is.number)) before.1,
        ap (λ b. cond b (min (old n + 1) 18446744073709551615) (old n)) (ne_eqb n e.file.number other) ∙ before.2,
      )

  -- or names none
  pub counts_as_before : ((facts : Facts) → AreFacts I L e.file.number facts → facts.file ≢ e.file) → AreCountsOf I L (entries ++ e ∷ []) old
  counts_as_before none n small =
      let before = counts n small in
      (before.0, those_as_before (NamesFile I L n) entries before.0 e (λ is. none is.facts is.are is.same) before.1, before.2)

-- an entry takes 16 bytes before the mark
used_few : (blocks : List (List ℕ)) (mark : ℕ) → length (used_entries blocks mark) ≤ mark / 16
unfolding used_entries
used_few blocks mark =
    let all : List Entry = map (entry_at blocks) (range_with_len 0 (mark / 16)) in
    let size : length all ≡ mark / 16 = length-map (range_with_len 0 (mark / 16)) (entry_at blocks) ∙ length-range_with_len 0 (mark / 16) in
    omega (arith, length-filter is_used all, count_by-le-length is_used all, size)

lines_as_many : (m : NameMap) → length (lines_of m) ≡ names.len m
lines_as_many m = length-map (names.entries m) (λ e. record { name = name_of e.0; version = version_of e.0; file = e.1 }) ∙ sym (names.len-entries m)

-- a directory has fewer than 2 to the 32 entries
pub listing_few : (I : List (List ℕ)) (L : VolumeLayout) → IsSoundBy I L → IsImage I → (n : ℕ) (lines : List Listed) → IsDirectoryFile I L n → IsListing I L n lines → length lines < 2 ^ 32
listing_few I L sound image n lines is listing =
    let names = lists_the_names I L n lines sound is listing in
    let lbns : List ℕ = names.0 in
    let mark : ℕ = mark_at I L n lbns in
    let has = names.1 in
    let used : List Entry = used_entries (contents_of I lbns) mark in
    let size : length lbns ≤ 6684672 = chain_size I L.home (index_for L n) n has.others lbns image has.whole.chain in
    let inside : mark ≤ 512 * length lbns = mark_inside (attributes_of (header_at I L n)) (length lbns) in
    let few : length used ≤ mark / 16 = used_few (contents_of I lbns) mark in
    let all : length lines ≡ length used =
    length_permutation (lines_of (names_of (contents_of I lbns) mark)) lines names.2 ∙ lines_as_many (names_of (contents_of I lbns) mark) ∙ len_names (contents_of I lbns) mark (sound.directories n lbns is has) in
    omega (arith)

-- nor has what is no directory
pub lines_few : (I : List (List ℕ)) (L : VolumeLayout) → IsSoundBy I L → IsImage I → (n : ℕ) (lines : List Listed) → AreLinesOf I L n lines → length lines < 2 ^ 32
lines_few I L sound image n lines are = by (cases_lt (length lines) (2 ^ 32))
  where
    by : (length lines < 2 ^ 32) ⊎ (2 ^ 32 ≤ length lines) → length lines < 2 ^ 32
    by (inl few) = few
    by (inr many) =
        let other : ¬ IsDirectoryFile I L n = λ is. (let few = listing_few I L sound image n lines is (are.0 is) in absurd (omega arith)) in
        absurd (omega (arith, ap length (are.1 other)))

-- the entries of all directories up to one more
pub entries_more : (I : List (List ℕ)) (L : VolumeLayout) (n : ℕ) (entries here : List Listed) → AreEntriesTo I L n entries → AreLinesOf I L (n + 1) here → AreEntriesTo I L (n + 1) (entries ++ here)
entries_more I L n entries here before lines =
    let more : AreEntriesTo I L (suc n) (entries ++ here) = (entries, here, refl, before, subst (λ m. AreLinesOf I L m here) next lines) in
    subst (λ m. AreEntriesTo I L m (entries ++ here)) (sym next) more
  where
    next : n + 1 ≡ suc n
    next = omega arith

-- the counts of some entries and the first of others, with one more of these
pub counts_on : (I : List (List ℕ)) (L : VolumeLayout) (entries items : List Listed) (k : ℕ) (e : Listed) (names : ℕ → ℕ) → k < length items → e ≡ get_or items k e
    → AreCountsOf I L ((entries ++ take k items) ++ e ∷ []) names → AreCountsOf I L (entries ++ take (k + 1) items) names
counts_on I L entries items k e names within is counts =
    let more : take (k + 1) items ≡ take k items ++ e ∷ [] = take_more items k e within ∙ ap (λ x. take k items ++ x ∷ []) (sym is) in
    subst (λ l. AreCountsOf I L l names) (append_assoc entries (take k items) (e ∷ []) ∙ ap (λ l. entries ++ l) (sym more)) counts

-- these and the first of others are few
pub few_on : (entries items : List Listed) (k : ℕ) → k < length items → length entries < 2 ^ 60 → length items < 2 ^ 32 → length (entries ++ take k items) < 2 ^ 63
few_on entries items k within few short = omega (arith, length-append entries (take k items), length-take-le k items (omega arith))
