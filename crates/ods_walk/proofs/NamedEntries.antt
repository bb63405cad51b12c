-- The entries of one name among those of a directory, block by block.
use Rattle.std.proofs.Common.{◌≡◌, ℕ, zero, suc, ◌+◌, ◌-◌, ◌*◌, ◌/◌, ◌<◌, ◌≤◌, min, Bool, true, false, cond, List, [], ◌∷◌, ◌++◌, filter, append-nil, Some, None, refl, sym, ap, ◌∙◌, subst, ◌%◌, arith}
use Rattle.std.specs.List.{cons_option, slice_get}
use Rattle.std.proofs.lemmas.Bool.{and_parts, ltb-true}
use Rattle.std.proofs.lemmas.Option.{same_Some}
use Rattle.std.proofs.lemmas.List.Elements.{All-cons, All-nil, filter-append, filter_map-append}
use Rattle.ods_base.specs.Block.{word}
use Rattle.ods_base.specs.Image.{block_at}
use Rattle.ods_base.specs.Name.{IsName, RadName}
use Rattle.ods_base.specs.Names.{is_of, name_of}
use Rattle.ods_base.specs.declared.listed.Listed.{Listed}
use Rattle.ods_directory.specs.Entry.{Entry, entry_at, entry_in, is_good, is_used, used_entries}
use Rattle.ods_directory.specs.Lines.{good_line, good_lines, line_of}
use Rattle.ods_directory.proofs.Used.{used_from, used_entries-is}
use Rattle.ods_directory.proofs.Blockwise.{used_before_next, used_of_block}
use Rattle.ods_mount.specs.Faults.{contents_of, mark_at}
use Rattle.ods_space.specs.Layout.{VolumeLayout}
use Rattle.ods_walk.specs.Listing.{AreEntries, has_name}

module _ (name : RadName) where
  -- the lines of this name among the used ones of n entries from a on
  abbrev pub named_from : (ℕ → Entry) → ℕ → ℕ → List Listed
  named_from entry a n = filter (has_name name) (good_lines (used_from entry a n))

  passed_line : (good : Bool) (e : Entry) (ls : List Listed) → has_name name (line_of e) ≡ false → filter (has_name name) ls ≡ [] → filter (has_name name) (cons_option (cond good (Some (line_of e)) None) ls) ≡ []
  passed_line false e ls other none = none
  passed_line true e ls other none = ap (λ b. cond b (line_of e ∷ filter (has_name name) ls) (filter (has_name name) ls)) other ∙ none

  passed_entry : (used : Bool) (e : Entry) (es : List Entry) → has_name name (line_of e) ≡ false → filter (has_name name) (good_lines es) ≡ [] → filter (has_name name) (good_lines (cond used (e ∷ es) es)) ≡ []
  passed_entry false e es other none = none
  passed_entry true e es other none = passed_line (is_good e) e (good_lines es) other none

  -- where no entry has the name, there is no line of it
  none_from : (entry : ℕ → Entry) (a n : ℕ) → ((k : ℕ) → k < a + n → has_name name (line_of (entry k)) ≡ false) → named_from entry a n ≡ []
  none_from entry a zero other = refl
  none_from entry a (suc n) other = passed_entry (is_used (entry a)) (entry a) (used_from entry (a + 1) n) (other a (omega arith)) (none_from entry (a + 1) n (λ k below. other k (omega (arith, below))))

  -- the used entries of one block, before a mark in it
  used_in_one : (b : List ℕ) (mark : ℕ) → mark ≤ 512 → used_entries (b ∷ []) mark ≡ used_from (entry_in b) 0 (mark / 16)
  used_in_one b mark few = used_entries-is (b ∷ []) mark ∙ sym (used_of_block (b ∷ []) 0 (mark / 16) (omega arith))

  -- a block with none of the name's words adds nothing
  pub none_in_block : (b : List ℕ) (mark : ℕ) (old new : List Listed) → mark ≤ 512 → ((k : ℕ) → k < 32 → is_of name (entry_in b k).key ≡ false) → new ≡ old
      → new ≡ old ++ filter (has_name name) (good_lines (used_entries (b ∷ []) mark))
  none_in_block b mark old new few other same =
      let none : named_from (entry_in b) 0 (mark / 16) ≡ [] = none_from (entry_in b) 0 (mark / 16) (λ k below. other k (omega arith)) in
      same ∙ sym (append-nil old) ∙ ap (λ ls. old ++ ls) (sym none ∙ ap (λ es. filter (has_name name) (good_lines es)) (sym (used_in_one b mark few)))

  module _ (blocks : List (List ℕ)) (mark : ℕ) where
    -- the used entries before the mark in the blocks before this one, and in this one
    used_more : (b : List ℕ) (i n : ℕ) → b ≡ block_at blocks i → n ≡ min (mark / 16 - 32 * i) 32
        → used_from (entry_at blocks) 0 (min (32 * (i + 1)) (mark / 16)) ≡ used_from (entry_at blocks) 0 (min (32 * i) (mark / 16)) ++ used_from (entry_in b) 0 n
    used_more b i zero same count =
        let end : min (32 * (i + 1)) (mark / 16) ≡ min (32 * i) (mark / 16) = omega arith in
        ap (used_from (entry_at blocks) 0) end ∙ sym (append-nil (used_from (entry_at blocks) 0 (min (32 * i) (mark / 16))))
    used_more b i (suc n) same count = used_before_next blocks b mark i (suc n) same count (omega arith)

    pub one_block_more : (b : List ℕ) (i here : ℕ) (old new : List Listed) → b ≡ block_at blocks i → here ≡ min (mark - 512 * i) 512
        → old ≡ named_from (entry_at blocks) 0 (min (32 * i) (mark / 16))
        → new ≡ old ++ filter (has_name name) (good_lines (used_entries (b ∷ []) here)) → new ≡ named_from (entry_at blocks) 0 (min (32 * (i + 1)) (mark / 16))
    one_block_more b i here old new same count before added =
        let few : here ≤ 512 = omega arith in
        let entries : here / 16 ≡ min (mark / 16 - 32 * i) 32 = omega arith in
        let xs = used_from (entry_at blocks) 0 (min (32 * i) (mark / 16)) in
        let ys = used_from (entry_in b) 0 (here / 16) in
        added ∙ ap (λ ls. ls ++ filter (has_name name) (good_lines (used_entries (b ∷ []) here))) before
        ∙ ap (λ es. filter (has_name name) (good_lines xs) ++ filter (has_name name) (good_lines es)) (used_in_one b here few)
        ∙ sym (filter-append (has_name name) (good_lines xs) (good_lines ys))
        ∙ ap (filter (has_name name)) (sym (filter_map-append good_line xs ys) ∙ ap good_lines (sym (used_more b i (here / 16) same entries)))

    -- the blocks before the last one are all
    pub all_blocks : (count : ℕ) → mark ≤ 512 * count → (found : List Listed) → found ≡ named_from (entry_at blocks) 0 (min (32 * count) (mark / 16))
        → found ≡ filter (has_name name) (good_lines (used_entries blocks mark))
    all_blocks count inside found so =
        let all : min (32 * count) (mark / 16) ≡ mark / 16 = omega arith in
        so ∙ ap (named_from (entry_at blocks) 0) all ∙ ap (λ es. filter (has_name name) (good_lines es)) (sym (used_entries-is blocks mark))

-- the name of a good entry of a block is one
good_name : (b : List ℕ) (k : ℕ) → is_good (entry_in b k) ≡ true → IsName (name_of (entry_in b k).key)
good_name b k good =
    let at = 8 * k in
    let four = and_parts _ _ (and_parts _ _ (and_parts _ _ (and_parts _ _ good).0).0).0 in
    let three = and_parts _ _ four.0 in
    let two = and_parts _ _ three.0 in
    let P : ℕ → Type 0 = λ w. w < 64000 in
    record {
      three = refl;
      words = All-cons P (word b (at + 3)) (word b (at + 4) ∷ word b (at + 5) ∷ []) (ltb-true _ _ two.0)
          (All-cons P (word b (at + 4)) (word b (at + 5) ∷ []) (ltb-true _ _ two.1) (All-cons P (word b (at + 5)) [] (ltb-true _ _ three.1) (All-nil P)));
      ext = ltb-true _ _ four.1;
    }

-- so is that of each line among the used ones of n entries from a on
names_from : (blocks : List (List ℕ)) (a n k : ℕ) (e : Listed) → slice_get (good_lines (used_from (entry_at blocks) a n)) k ≡ Some e → IsName e.name
names_from blocks a zero k e there = absurd (cc)
names_from blocks a (suc n) k e there = by_used (is_used (entry_at blocks a)) k there (λ j at. names_from blocks (a + 1) n j e at)
  where
    rest : List Entry
    rest = used_from (entry_at blocks) (a + 1) n

    by_good : (good : Bool) → is_good (entry_at blocks a) ≡ good → (j : ℕ) → slice_get (cons_option (cond good (Some (line_of (entry_at blocks a))) None) (good_lines rest)) j ≡ Some e
        → ((j : ℕ) → slice_get (good_lines rest) j ≡ Some e → IsName e.name) → IsName e.name
    by_good false is j at later = later j at
    by_good true is zero at later = subst (λ (l : Listed). IsName l.name) (same_Some _ _ at) (good_name (block_at blocks (a / 32)) (a % 32) is)
    by_good true is (suc j) at later = later j at

    by_used : (used : Bool) (j : ℕ) → slice_get (good_lines (cond used (entry_at blocks a ∷ rest) rest)) j ≡ Some e → ((j : ℕ) → slice_get (good_lines rest) j ≡ Some e → IsName e.name) → IsName e.name
    by_used false j at later = later j at
    by_used true j at later = by_good (is_good (entry_at blocks a)) refl j at later

-- each entry that a directory shows has a name
pub shown_names : (I : List (List ℕ)) (L : VolumeLayout) (n : ℕ) (entries : List Listed) → AreEntries I L n entries → (k : ℕ) (e : Listed) → slice_get entries k ≡ Some e → IsName e.name
shown_names I L n entries are k e there =
    let blocks = contents_of I are.lbns in
    let mark = mark_at I L n are.lbns in
    names_from blocks 0 (mark / 16) k e (subst (λ (ls : List Listed). slice_get ls k ≡ Some e) (are.all ∙ ap good_lines (used_entries-is blocks mark)) there)
