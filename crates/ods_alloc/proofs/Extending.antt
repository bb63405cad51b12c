-- The headers and the bits of a chain that grows, put together.
use Rattle.std.proofs.Common.{◌≡◌, ◌≢◌, ℕ, zero, suc, ◌+◌, ◌-◌, ◌*◌, ◌/◌, ◌%◌, ◌<◌, ◌≤◌, ◌⊎◌, Bool, true, false, cond, not, ◌&&◌, ◌||◌, nat_eq, IsTrue, List, [], ◌∷◌, ◌++◌, length, take, drop, drop-cons, get_or, slice_get, Option, Some, None, refl, sym, ap, ◌∙◌, subst, arith, inl, inr}
use Rattle.std.specs.Prelude.{slice_index}
use Rattle.std.specs.Option.{option_map_or}
use Rattle.std.specs.List.{Contains, flat_map}
use Rattle.std.proofs.lemmas.Bool.{cases_eq, cases_lt, ltb-true, or_right, or_left, ne_eqb, eq-eqb}
use Rattle.std.proofs.lemmas.List.Folds.{list_any-append, list_any_at, list_any_none}
use Rattle.std.proofs.lemmas.List.Elements.{Contains-append_left, Contains-append_right, All-cons}
use Rattle.std.proofs.lemmas.Option.{same_Some, get_or_from_slice_get}
use Rattle.std.proofs.lemmas.List.{append-nil, drop_all, length-drop, length-take, get_or_default}
use Rattle.std.proofs.lemmas.List.Concat.{flat_map-append}
use Rattle.ods_base.specs.Block.{byte, has_bit}
use Rattle.ods_base.specs.Image.{block_at}
use Rattle.ods_header.specs.declared.header.Run.{Run}
use Rattle.ods_header.specs.Header.{IsValidHeader, map_word, segment_of, sequence_of, next_number_of, runs_of, run_blocks, room_of}
use Rattle.ods_space.specs.Layout.{VolumeLayout, place_of, header_at, is_in_use}
use Rattle.ods_space.specs.Chain.{IsChain}
use Rattle.ods_space.specs.Free.{is_covered, storage_bit}
use Rattle.ods_header.specs.Pointing.{KeepsFields, KeepsRest, BeginsPointers}
use Rattle.ods_header.specs.Extension.{IsExtensionOf}
use Rattle.ods_alloc.specs.Extend.{IsWellPlaced, CanExtend, EndsClean, Extends, IsIndexBitmap, IsStorageBitmap, is_one_of, with_in_use, last_of, cut}
use Rattle.ods_alloc.specs.Extension.{IsMade, WritesHeaders, first_number, first_sequence}
use Rattle.ods_header.specs.Pointing.{IsGrown}
use Rattle.ods_alloc.specs.Marks.{MarksNumbers, MarksBlocks}
use Rattle.ods_alloc.specs.Chains.{IsLink, LinksOn, GoesOn}
use Rattle.ods_alloc.proofs.Cuts.{cut_blocks}
use Rattle.ods_alloc.proofs.ManyBits.{one_is, numbers_marked, cond_and}
use Rattle.ods_alloc.proofs.Places.{place_not_index, place_not_storage, bitmaps_apart, stands_in_storage, same_in_use, never_in_use, cases_covered, place_once}
use Rattle.ods_alloc.proofs.FreeTests.{IsFreeNumber, free_number}
use Rattle.ods_alloc.proofs.Chained.{follows, first_valid, first_link, first_covered, same_header, others_in_use, last_link, last_names_none, not_new, last_valid}
use Rattle.ods_alloc.proofs.Fields.{new_runs, all_links, old_runs, whole_runs, last_in, made_full, extension_stays}
use Rattle.ods_alloc.proofs.Rests.{rest_still}
use Rattle.ods_alloc.proofs.Longer as longer

take_bits : (a b c : Bool) → cond a true (cond b true c) ≡ (c || (a || b))
take_bits true true true = refl
take_bits true true false = refl
take_bits true false true = refl
take_bits true false false = refl
take_bits false true true = refl
take_bits false true false = refl
take_bits false false true = refl
take_bits false false false = refl

-- a header of which all but the link, M.USE, the pointers and the sum stays keeps its place and its sequence number
keeps_segment : (b c : List ℕ) (n : ℕ) → IsValidHeader b n → KeepsFields b c → segment_of c ≡ segment_of b
keeps_segment b c n valid kept =
    let p = valid.header.layout.ident in let q = valid.header.layout.map in
    let m : map_word c ≡ map_word b = kept 1 (inl (omega arith)) in
    ap (λ k. byte c (2 * k)) m ∙ kept (2 * map_word b) (inl (omega arith))

keeps_sequence : (b c : List ℕ) (n : ℕ) → IsValidHeader b n → KeepsFields b c → sequence_of c ≡ sequence_of b
keeps_sequence b c n valid kept =
    let p = valid.header.layout.ident in let q = valid.header.layout.map in
    λ i. kept 4 (inl (omega arith)) i + 256 * kept 5 (inl (omega arith)) i

-- the first of the numbers from place j on
first_at : (xs : List ℕ) (j : ℕ) → j < length xs → first_number (drop j xs) ≡ get_or xs j 0
first_at xs j within = ap first_number (drop-cons xs j 0 within)

sequence_at : (I : List (List ℕ)) (L : VolumeLayout) (xs : List ℕ) (j : ℕ) → j < length xs → first_sequence I L (drop j xs) ≡ sequence_of (header_at I L (get_or xs j 0)) + 1
sequence_at I L xs j within = ap (first_sequence I L) (drop-cons xs j 0 within)

module _ (I C J1 J2 J3 J4 : List (List ℕ)) (L : VolumeLayout) (n : ℕ) (others all blocks numbers : List ℕ) (runs : List Run) (places : IsWellPlaced L) (is : C ≡ with_in_use I L.home n) (chain : IsChain C L n others all)
    (grows : CanExtend I L n others blocks numbers) (cuts : runs ≡ cut blocks) (W : WritesHeaders I L n (last_of n others) numbers runs J1)
    (M2 : MarksNumbers J1 L numbers true J2) (M3 : MarksNumbers J2 L (n ∷ []) true J3) (M4 : MarksBlocks J3 L blocks false J4) where
  high : 2 ≤ n
  high = let low = grows.file in omega arith

  -- bits change no other block
  bits_apart : (lbn : ℕ) → (IsIndexBitmap L lbn → ⊥) → (IsStorageBitmap L lbn → ⊥) → block_at J4 lbn ≡ block_at J1 lbn
  bits_apart lbn a b = M4.others lbn b ∙ M3.others lbn a ∙ M2.others lbn a

  header_kept : (m : ℕ) → header_at J4 L m ≡ header_at J1 L m
  header_kept m = by (place_of L m) refl
    where
      by : (o : Option ℕ) → place_of L m ≡ o → option_map_or (block_at J4) o [] ≡ option_map_or (block_at J1) o []
      by None e = refl
      by (Some q) e = bits_apart q (place_not_index L m q places e) (place_not_storage L m q places e)

  old_header : (m : ℕ) → (Contains numbers m → ⊥) → m ≢ last_of n others → header_at J4 L m ≡ header_at I L m
  old_header m new other = header_kept m ∙ by (place_of L m) refl
    where
      by : (o : Option ℕ) → place_of L m ≡ o → option_map_or (block_at J1) o [] ≡ option_map_or (block_at I) o []
      by None e = refl
      by (Some q) e = W.others q (λ p. new (let P : ℕ → Type 0 = λ x. Contains numbers x in subst P (place_once L p.0 m q places p.2 e) p.1)) (λ e'. other (place_once L m (last_of n others) q places e e'))

  free_at : (i : ℕ) → i < length numbers → IsFreeNumber I L (get_or numbers i 0)
  free_at i below = free_number I L (get_or numbers i 0) (grows.free i 0 below)

  one_of_both : (m : ℕ) → is_one_of (n ∷ numbers) m ≡ (is_one_of (n ∷ []) m || is_one_of numbers m)
  one_of_both m = list_any-append (λ y. nat_eq y m) (n ∷ []) numbers

  none_past : (m : ℕ) → (m ≡ 0) ⊎ (4096 * L.home.index_bitmap_size < m) → is_one_of (n ∷ numbers) m ≡ false
  none_past m past = list_any_none (λ y. nat_eq y m) (n ∷ numbers) (All-cons (λ y. nat_eq y m ≡ false) n numbers (ne_eqb n m (apart n (omega arith) covered))
      (λ i d below. let f = free_number I L (get_or numbers i d) (grows.free i d below) in let low = f.low in let few = f.high in ne_eqb (get_or numbers i d) m (apart (get_or numbers i d) (omega arith) (omega arith))))
    where
      covered : n ≤ 4096 * L.home.index_bitmap_size
      covered = first_covered I C L n others all places high is chain

      some : 1 ≤ n
      some = let h = high in omega arith

      apart : (y : ℕ) → 1 ≤ y → y ≤ 4096 * L.home.index_bitmap_size → y ≡ m → ⊥
      apart y low few e = elim past [ inl none ↦ absurd (omega arith) | inr above ↦ absurd (omega arith) ]

  index_bits : (m : ℕ) → is_in_use J4 L.home m ≡ (is_in_use I L.home m || is_one_of (n ∷ numbers) m)
  index_bits m = elim (cases_covered L m) [
    | inr past ↦ never_in_use J4 L m past ∙ sym (ap (λ t. t || is_one_of (n ∷ numbers) m) (never_in_use I L m past) ∙ none_past m past)
    | inl covered ↦
        let one : Bool = is_one_of (n ∷ []) m in
        let new : Bool = is_one_of numbers m in
        same_in_use J4 J3 L (λ lbn index. M4.others lbn (λ s. bitmaps_apart L lbn places index s)) m ∙ numbers_marked J2 J3 L (n ∷ []) true M3 m covered
        ∙ ap (λ t. cond one true t) (numbers_marked J1 J2 L numbers true M2 m covered)
        ∙ ap (λ t. cond one true (cond new true t)) (same_in_use J1 I L (λ lbn index. W.others lbn (λ p. place_not_index L p.0 lbn places p.2 index) (λ e. place_not_index L (last_of n others) lbn places e index)) m)
        ∙ take_bits one new (is_in_use I L.home m) ∙ ap (λ t. is_in_use I L.home m || t) (sym (one_of_both m))
  ]

  storage_bits : (x : ℕ) → IsTrue (is_covered L x) → storage_bit J4 L x ≡ (storage_bit I L x && not (is_one_of blocks x))
  storage_bits x covered =
      let lbn : ℕ = slice_index L.bitmap (1 + x / 4096) in
      let stands : IsStorageBitmap L lbn = stands_in_storage L x (ltb-true (1 + x / 4096) (length L.bitmap) covered) in
      let away : IsIndexBitmap L lbn → ⊥ = λ p. bitmaps_apart L lbn places p stands in
      M4.bits x covered ∙ cond_and (is_one_of blocks x) (storage_bit J3 L x)
      ∙ ap (λ b. has_bit b (x % 4096) && not (is_one_of blocks x))
      (M3.others lbn away ∙ M2.others lbn away ∙ W.others lbn (λ p. place_not_storage L p.0 lbn places p.2 stands) (λ e. place_not_storage L (last_of n others) lbn places e stands))

  link_used : (m k : ℕ) → IsLink C L m k → IsTrue (is_in_use J4 L.home m)
  link_used m k link = index_bits m ∙ elim (cases_eq m n) [
    | inl e ↦ or_right (is_in_use I L.home m) (is_one_of (n ∷ numbers) m) (one_of_both m ∙ or_left (is_one_of (n ∷ []) m) (is_one_of numbers m) (one_is n m e))
    | inr other ↦ or_left (is_in_use I L.home m) (is_one_of (n ∷ numbers) m) (sym (others_in_use I C L n others all places high is chain m other) ∙ link.in_use)
  ]

  new_used : (i : ℕ) → i < length numbers → IsTrue (is_in_use J4 L.home (get_or numbers i 0))
  new_used i below =
      let m : ℕ = get_or numbers i 0 in
      index_bits m ∙ or_right (is_in_use I L.home m) (is_one_of (n ∷ numbers) m) (one_of_both m ∙ or_right (is_one_of (n ∷ []) m) (is_one_of numbers m) (list_any_at (λ y. nat_eq y m) numbers i 0 below (eq-eqb m m refl)))

  in_chain : (m : ℕ) → header_at C L m ≡ header_at I L m
  in_chain = same_header I C L n others all places high is chain

  old_link : (m k : ℕ) → IsLink C L m k → m ≢ last_of n others → header_at J4 L m ≡ header_at I L m
  old_link m k link other = old_header m (not_new I C L n others all places high is chain numbers grows.free grows.new m k link) other

  valid_last : IsValidHeader (header_at I L (last_of n others)) (last_of n others)
  valid_last = last_valid I C L n others all places high is chain

  grown : IsGrown (header_at I L (last_of n others)) runs (first_number numbers) (first_sequence I L numbers) (header_at J4 L (last_of n others))
  grown = let P : List ℕ → Type 0 = λ b. IsGrown (header_at I L (last_of n others)) runs (first_number numbers) (first_sequence I L numbers) b in subst P (sym (header_kept (last_of n others))) W.last

  place_of_last : segment_of (header_at I L (last_of n others)) ≡ length others
  place_of_last = ap segment_of (sym (in_chain (last_of n others))) ∙ (last_link I C L n others all places high is chain).segment

  made_at : (i : ℕ) → i < length numbers → IsMade I L (header_at I L n) (length others + 1 + i) (get_or numbers i 0) (take 102 (drop (102 * i) (drop (room_of (header_at I L (last_of n others)) / 2) runs))) (drop (i + 1) numbers) (header_at J4 L (get_or numbers i 0))
  made_at i below =
      let m : ℕ = get_or numbers i 0 in
      let part : List Run = take 102 (drop (102 * i) (drop (room_of (header_at I L (last_of n others)) / 2) runs)) in
      let P : ℕ → Type 0 = λ k. IsMade I L (header_at I L n) (k + 1 + i) m part (drop (i + 1) numbers) (header_at J4 L m) in
      let Q : List ℕ → Type 0 = λ b. IsMade I L (header_at I L n) (segment_of (header_at I L (last_of n others)) + 1 + i) m part (drop (i + 1) numbers) b in
      subst P place_of_last (subst Q (sym (header_kept m)) (W.made i below))

  sequence_kept : (m k : ℕ) → IsLink C L m k → sequence_of (header_at J4 L m) ≡ sequence_of (header_at C L m)
  sequence_kept m k link = elim (cases_eq m (last_of n others)) [
    | inl e ↦ ap (λ x. sequence_of (header_at J4 L x)) e ∙ keeps_sequence (header_at I L (last_of n others)) (header_at J4 L (last_of n others)) (last_of n others) valid_last grown.fields ∙ ap (λ x. sequence_of (header_at I L x)) (sym e) ∙ ap sequence_of (sym (in_chain m))
    | inr other ↦ ap sequence_of (old_link m k link other ∙ sym (in_chain m))
  ]

  -- the sequence number of a new header that another names
  named : (j : ℕ) → j < length numbers → sequence_of (header_at J4 L (first_number (drop j numbers))) ≡ first_sequence I L (drop j numbers)
  named j below = ap (λ m. sequence_of (header_at J4 L m)) (first_at numbers j below) ∙ (made_at j below).sequence ∙ sym (sequence_at I L numbers j below)

  last_on : LinksOn J4 L (last_of n others) (length others) (runs_of (header_at C L (last_of n others)) ++ take (room_of (header_at I L (last_of n others)) / 2) runs) numbers
  last_on =
      let z : ℕ = last_of n others in
      let link = last_link I C L n others all places high is chain in
      record {
        link = record {
          first = link.first;
          last = link.last;
          in_use = link_used z (length others) link;
          valid = grown.valid z valid_last;
          segment = keeps_segment (header_at I L z) (header_at J4 L z) z valid_last grown.fields ∙ place_of_last;
        };
        pointers = grown.pointers ∙ ap (λ b. runs_of b ++ take (room_of (header_at I L z) / 2) runs) (sym (in_chain z));
        next = elim (cases_eq (first_number numbers) 0) [
          | inl none ↦ grown.alone none ∙ ap next_number_of (sym (in_chain z)) ∙ last_names_none I C L n others all places high is chain ∙ sym none
          | inr some ↦ (grown.linked some).0
        ];
        volume = λ some. (grown.linked (positive some)).1;
        sequence = λ some. named 0 some ∙ sym (grown.linked (positive some)).2;
      }
    where
      positive : 0 < length numbers → first_number numbers ≢ 0
      positive some e = let low = (free_at 0 some).low in let at = first_at numbers 0 some in absurd (omega (arith, at, e))

  new_on : (i : ℕ) → i < length numbers → LinksOn J4 L (get_or numbers i 0) (length others + 1 + i) (take 102 (drop (102 * i) (drop (room_of (header_at I L (last_of n others)) / 2) runs))) (drop (i + 1) numbers)
  new_on i below =
      let made = made_at i below in
      let low = (free_at i below).low in
      record {
        link = record { first = omega arith; last = (free_at i below).high; in_use = new_used i below; valid = made.valid; segment = made.in_chain };
        pointers = made.pointers;
        next = made.next_number;
        volume = λ some. made.next_volume;
        sequence = λ some. named (i + 1) (let size = length-drop (i + 1) numbers in omega arith) ∙ sym made.next_sequence;
      }

  goes_on : GoesOn C L n others numbers runs (room_of (header_at I L (last_of n others)) / 2) J4
  goes_on = record {
    same = λ m k link before. old_link m k link (λ e.
        let P : ℕ → Type 0 = λ x. segment_of (header_at C L x) ≡ length others in
        let at : segment_of (header_at C L m) ≡ length others = subst P (sym e) (last_link I C L n others all places high is chain).segment in
        let here = link.segment in
        absurd (omega (arith, at, here))) ∙ sym (in_chain m);
    used = link_used;
    sequence = sequence_kept;
    last = last_on;
    new = new_on;
    enough = let count = grows.enough in let size : length runs ≡ length (cut blocks) = ap length cuts in omega arith;
  }

  pub longer_chain : IsChain J4 L n (others ++ numbers) (all ++ blocks)
  longer_chain =
      let P : List ℕ → Type 0 = λ l. IsChain J4 L n (others ++ numbers) (all ++ l) in
      subst P (ap (flat_map run_blocks) cuts ∙ cut_blocks blocks) (longer.chain_grows C J4 L n others all numbers runs (room_of (header_at I L (last_of n others)) / 2) high chain goes_on)

  keeps_link : (m k : ℕ) → IsLink C L m k → KeepsFields (header_at I L m) (header_at J4 L m)
  keeps_link m k link = elim (cases_eq m (last_of n others)) [
    | inl e ↦ let P : ℕ → Type 0 = λ x. KeepsFields (header_at I L x) (header_at J4 L x) in subst P (sym e) grown.fields
    | inr other ↦ λ i at. ap (λ b. byte b i) (old_link m k link other)
  ]

  begins_link : (m k : ℕ) → IsLink C L m k → BeginsPointers (header_at I L m) (header_at J4 L m)
  begins_link m k link = elim (cases_eq m (last_of n others)) [
    | inl e ↦
        let P : ℕ → Type 0 = λ x. BeginsPointers (header_at I L x) (header_at J4 L x) in
        subst P (sym e) (take (room_of (header_at I L (last_of n others)) / 2) runs, grown.pointers)
    | inr other ↦ ([], ap runs_of (old_link m k link other) ∙ sym (append-nil (runs_of (header_at I L m))))
  ]

  rest_link : (m k : ℕ) → IsLink C L m k → KeepsRest (header_at I L m) (header_at J4 L m)
  rest_link m k link = elim (cases_eq m (last_of n others)) [
    | inl e ↦ let P : ℕ → Type 0 = λ x. KeepsRest (header_at I L x) (header_at J4 L x) in subst P (sym e) grown.rest
    | inr other ↦ rest_still (header_at I L m) (header_at J4 L m) (old_link m k link other)
  ]

  clean_at : (i : ℕ) → i < length numbers → EndsClean (header_at J4 L (get_or numbers i 0))
  clean_at i below e =
      let made = made_at i below in
      made.next_sequence ∙ elim (cases_lt (i + 1) (length numbers)) [
        | inl within ↦ let low = (free_at (i + 1) within).low in let at = first_at numbers (i + 1) within in let named = made.next_number in absurd (omega (arith, at, e, named))
        | inr past ↦ ap (first_sequence I L) (drop_all (i + 1) numbers past)
      ]

  size_link : (m k : ℕ) → IsLink C L m k → length (header_at J4 L m) ≡ length (header_at I L m)
  size_link m k link = elim (cases_eq m (last_of n others)) [
    | inl e ↦ let P : ℕ → Type 0 = λ x. length (header_at J4 L x) ≡ length (header_at I L x) in subst P (sym e) grown.size
    | inr other ↦ ap length (old_link m k link other)
  ]

  pub extends : Extends I L n others all blocks numbers J4
  extends = record {
    chain = longer_chain;
    runs =
        flat_map-append (λ m. runs_of (header_at J4 L m)) (n ∷ others) numbers
        ∙ ap (λ l. l ++ flat_map (λ m. runs_of (header_at J4 L m)) numbers) (old_runs C L (λ m. runs_of (header_at J4 L m)) (λ m. runs_of (header_at I L m)) (length others) (last_of n others) (take (room_of (header_at I L (last_of n others)) / 2) runs)
        (λ m k link before. ap runs_of (goes_on.same m k link before ∙ in_chain m)) grown.pointers others 0 n [] all (follows I C L n others all places high is chain) (omega arith) refl)
        ∙ ap (λ l. (flat_map (λ m. runs_of (header_at I L m)) (n ∷ others) ++ take (room_of (header_at I L (last_of n others)) / 2) runs) ++ l) (new_runs (λ m. runs_of (header_at J4 L m)) numbers (drop (room_of (header_at I L (last_of n others)) / 2) runs) (λ i below. (made_at i below).pointers)
        (let enough = goes_on.enough in let size : length (drop (room_of (header_at I L (last_of n others)) / 2) runs) ≡ length runs - room_of (header_at I L (last_of n others)) / 2 = length-drop (room_of (header_at I L (last_of n others)) / 2) runs in omega arith))
        ∙ whole_runs (flat_map (λ m. runs_of (header_at I L m)) (n ∷ others)) runs (room_of (header_at I L (last_of n others)) / 2) ∙ ap (λ l. flat_map (λ m. runs_of (header_at I L m)) (n ∷ others) ++ l) cuts;
    stays = all_links C L (λ m. KeepsFields (header_at I L m) (header_at J4 L m)) keeps_link others 0 n [] all (follows I C L n others all places high is chain);
    begins = all_links C L (λ m. BeginsPointers (header_at I L m) (header_at J4 L m)) begins_link others 0 n [] all (follows I C L n others all places high is chain);
    rest = all_links C L (λ m. KeepsRest (header_at I L m) (header_at J4 L m)) rest_link others 0 n [] all (follows I C L n others all places high is chain);
    sizes = all_links C L (λ m. length (header_at J4 L m) ≡ length (header_at I L m)) size_link others 0 n [] all (follows I C L n others all places high is chain);
    made = λ i d below.
        let P : ℕ → Type 0 = λ m. IsExtensionOf (header_at J4 L n) (header_at J4 L m) in
        subst P (get_or_default numbers i 0 d below) (extension_stays (header_at I L n) (header_at J4 L n) (header_at J4 L (get_or numbers i 0)) n (first_valid I C L n others all places high is chain) (size_link n 0 (first_link I C L n others all places high is chain))
        (keeps_link n 0 (first_link I C L n others all places high is chain)) (made_at i below).extension);
    clean = λ i d below. let P : ℕ → Type 0 = λ m. EndsClean (header_at J4 L m) in subst P (get_or_default numbers i 0 d below) (clean_at i below);
    filled = filled;
    last_volume = λ none. grown.volume (ap first_number none);
    sequences = λ i d below.
        let P : ℕ → Type 0 = λ m. sequence_of (header_at J4 L m) ≡ sequence_of (header_at I L m) + 1 in
        subst P (get_or_default numbers i 0 d below) (made_at i below).sequence;
    bits = record { storage = storage_bits; index_bits = index_bits };
    only = record {
      size = M4.size ∙ M3.size ∙ M2.size ∙ W.size;
      others = λ lbn away. bits_apart lbn (λ p. away (inl p)) (λ p. away (inr (inl p)))
          ∙ W.others lbn (λ p. away (inr (inr (p.0, Contains-append_right (n ∷ others) numbers p.0 p.1, p.2))))
          (λ e. away (inr (inr (last_of n others, Contains-append_left (n ∷ others) numbers (last_of n others) (last_in n others), e))));
    };
  }
    where
      filled : (i m : ℕ) → i < length numbers → slice_get (last_of n others ∷ numbers) i ≡ Some m → room_of (header_at J4 L m) / 2 ≡ 0
      filled zero m below found =
          let same : last_of n others ≡ m = same_Some (last_of n others) m found in
          let P : ℕ → Type 0 = λ x. room_of (header_at J4 L x) / 2 ≡ 0 in
          let count = grows.enough in let size : length runs ≡ length (cut blocks) = ap length cuts in
          subst P same (grown.full (omega arith))
      filled (suc j) m below found =
          let same : get_or numbers j 0 ≡ m = get_or_from_slice_get numbers j m 0 found in
          let P : ℕ → Type 0 = λ x. room_of (header_at J4 L x) / 2 ≡ 0 in
          let count = grows.enough in let size : length runs ≡ length (cut blocks) = ap length cuts in
          let R : ℕ = room_of (header_at I L (last_of n others)) / 2 in
          let made = made_at j (omega arith) in
          let rest : length (drop R runs) ≡ length runs - R = length-drop R runs in
          let left : length (drop (102 * j) (drop R runs)) ≡ length (drop R runs) - 102 * j = length-drop (102 * j) (drop R runs) in
          let part : length (take 102 (drop (102 * j) (drop R runs))) ≡ 102 = length-take 102 (drop (102 * j) (drop R runs)) ∙ omega arith in
          subst P same (made_full (header_at I L n) (header_at J4 L (get_or numbers j 0)) (get_or numbers j 0) made.valid made.extension (ap length made.pointers ∙ part))
