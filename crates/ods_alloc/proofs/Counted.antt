-- Counts of free blocks and of clear index bits, from the bits of a block to the whole bitmap.
use Rattle.std.proofs.Common.{◌≡◌, ℕ, zero, suc, ◌+◌, ◌-◌, ◌*◌, ◌/◌, ◌%◌, ◌^◌, ◌<◌, ◌≤◌, Bool, true, false, cond, not, ◌&&◌, nat_eq, nat_lt, nat_le, List, [], ◌∷◌, map, length, take, drop, get_or, None, refl, sym, ap, ◌∙◌, arith, inl, inr}
use Rattle.std.specs.Prelude.{count_ones, unwrap_or, slice_index, slice_range}
use Rattle.std.specs.Int.{bit_at}
use Rattle.std.specs.List.{filter, range_with_len, sum}
use Rattle.std.proofs.lemmas.Bool.{and_left, and_right, cases_lt, cases_eq, lt-ltb, le-ltb, le-leb}
use Rattle.std.proofs.lemmas.List.{get_or-drop, get_or-take, get_or_past}
use Rattle.std.proofs.lemmas.List.Filters.{length-filter_both}
use Rattle.std.proofs.lemmas.List.FromFn.{length-range_with_len, length-map-range_with_len, get_or-map-range_with_len, sum_by-map-range_with_len_more}
use Rattle.std.proofs.lemmas.Nat.Bits.{bit_at-zero}
use Rattle.std.proofs.lemmas.Option.{get_or_from_slice_get, slice_get_within}
use Rattle.ods_base.specs.Block.{has_bit}
use Rattle.ods_base.specs.Bits.{IsWordOf}
use Rattle.ods_base.specs.Image.{block_at}
use Rattle.ods_header.specs.declared.home.Home.{Home}
use Rattle.ods_space.specs.Layout.{VolumeLayout, is_in_use}
use Rattle.ods_space.specs.Free.{is_free_block, free_blocks}
use Rattle.ods_space.specs.Draft.{Changes, change_at, applied}
use Rattle.ods_space.proofs.Drafts.{length-applied, block_at-applied}
use Rattle.ods_alloc.specs.Scan.{NonePasses, NoneIsNext, is_clear}
use Rattle.ods_alloc.specs.Counts.{IsCountedTo, free_in, free_counts, clear_in, clear_counts, is_low_bit, low_bits_set, bitmap_lbn, index_lbn, ShowsNone}
use Rattle.ods_alloc.proofs.WordBits.{ones_is}
use Rattle.ods_alloc.proofs.Scans.{filter_few, count_cut, count_all}
use Rattle.ods_alloc.proofs.FreeTests.{not_free_past}

pub lt_shift : (a i few : ℕ) → nat_lt i (few - a) ≡ nat_lt (a + i) few
lt_shift a i few = elim (cases_lt (a + i) few) [
  | inl low ↦ lt-ltb i (few - a) (omega arith) ∙ sym (lt-ltb (a + i) few low)
  | inr high ↦ le-ltb i (few - a) (omega arith) ∙ sym (le-ltb (a + i) few high)
]

-- the bits of one word more are counted
pub word_more : (b : List ℕ) (few j word low left count : ℕ) → left ≡ few - 64 * j → low < 2 ^ 64 → IsWordOf (λ i. has_bit b (64 * j + i)) word
    → ((i : ℕ) → i < 64 → nat_eq (bit_at low i) 1 ≡ (nat_lt i left && nat_eq (bit_at word i) 1))
    → count ≡ length (filter (is_low_bit few b) (range_with_len 0 (64 * j)))
    → count + count_ones low ≡ length (filter (is_low_bit few b) (range_with_len 0 (64 * (j + 1))))
word_more b few j word low left count left_is small word_is low_is before =
    let p = is_low_bit few b in
    let each : (i : ℕ) → i < 64 → nat_eq (bit_at low i) 1 ≡ p (64 * j + i) = λ i within.
    low_is i within ∙ ap (λ n. nat_lt i n && nat_eq (bit_at word i) 1) left_is
    ∙ ap (λ t. t && nat_eq (bit_at word i) 1) (lt_shift (64 * j) i few)
    ∙ ap (λ t. nat_lt (64 * j + i) few && t) (word_is i within) in
    let ones = ones_is 64 low (64 * j) p small each in
    let more : 64 * j + 64 ≡ 64 * (j + 1) = omega arith in
    omega (arith, before, ones, count_cut p (64 * j) 64) ∙ ap (λ n. length (filter p (range_with_len 0 n))) more

-- and those of a word of which each bit counts
pub whole_word : (b : List ℕ) (few j word count : ℕ) → 64 * (j + 1) ≤ few → word < 2 ^ 64 → IsWordOf (λ i. has_bit b (64 * j + i)) word
    → count ≡ length (filter (is_low_bit few b) (range_with_len 0 (64 * j)))
    → count + count_ones word ≡ length (filter (is_low_bit few b) (range_with_len 0 (64 * (j + 1))))
whole_word b few j word count whole small word_is before =
    word_more b few j word word (few - 64 * j) count refl small word_is
    (λ i within. ap (λ t. t && nat_eq (bit_at word i) 1) (sym (lt-ltb i (few - 64 * j) (omega (arith, whole, within))))) before

-- behind the first `few` bits none counts
pub bits_end : (few : ℕ) (b : List ℕ) (n : ℕ) → few ≤ n → n ≤ 4096 → length (filter (is_low_bit few b) (range_with_len 0 n)) ≡ low_bits_set few b
bits_end few b n all less = sym (count_all (is_low_bit few b) n 4096 less (λ k above. ap (λ t. t && has_bit b k) (le-ltb k few (omega (arith, all, above)))))

pub few_bits : (few : ℕ) (b : List ℕ) (n : ℕ) → length (filter (is_low_bit few b) (range_with_len 0 n)) ≤ n
few_bits few b n = filter_few (is_low_bit few b) 0 n

-- a range of numbers counted by a test, and another one by another test
pub count_shift : (p q : ℕ → Bool) (a b n : ℕ) → ((i : ℕ) → i < n → p (a + i) ≡ q (b + i)) → length (filter p (range_with_len a n)) ≡ length (filter q (range_with_len b n))
count_shift p q a b zero same = refl
count_shift p q a b (suc n) same =
    let here : p a ≡ q b = ap p (omega arith) ∙ same 0 (omega arith) ∙ ap q (omega arith) in
    let rest : length (filter p (range_with_len (a + 1) n)) ≡ length (filter q (range_with_len (b + 1) n)) = count_shift p q (a + 1) (b + 1) n (λ i within. ap p (omega arith) ∙ same (suc i) (omega arith) ∙ ap q (omega arith)) in
    by (p a) (q b) here rest
  where
    by : (s t : Bool) → s ≡ t → length (filter p (range_with_len (a + 1) n)) ≡ length (filter q (range_with_len (b + 1) n))
        → length (cond s (a ∷ filter p (range_with_len (a + 1) n)) (filter p (range_with_len (a + 1) n))) ≡ length (cond t (b ∷ filter q (range_with_len (b + 1) n)) (filter q (range_with_len (b + 1) n)))
    by true true e rest = ap suc rest
    by true false e rest = absurd (cc)
    by false true e rest = absurd (cc)
    by false false e rest = rest

-- a word adds what is counted in its range
pub word_range : (b : List ℕ) (few j : ℕ) → length (filter (is_low_bit few b) (range_with_len 0 (64 * (j + 1)))) ≡ length (filter (is_low_bit few b) (range_with_len 0 (64 * j))) + length (filter (is_low_bit few b) (range_with_len (64 * j) 64))
word_range b few j =
    let more : 64 * (j + 1) ≡ 64 * j + 64 = omega arith in
    ap (λ n. length (filter (is_low_bit few b) (range_with_len 0 n))) more ∙ count_cut (is_low_bit few b) (64 * j) 64

-- where two blocks have the same word, it adds the same to both
pub same_word : (b c : List ℕ) (few j was is : ℕ) → was ≡ is → IsWordOf (λ i. has_bit b (64 * j + i)) was → IsWordOf (λ i. has_bit c (64 * j + i)) is
    → length (filter (is_low_bit few b) (range_with_len (64 * j) 64)) ≡ length (filter (is_low_bit few c) (range_with_len (64 * j) 64))
same_word b c few j was is same of_b of_c = count_shift (is_low_bit few b) (is_low_bit few c) (64 * j) (64 * j) 64
    (λ i small. ap (λ t. nat_lt (64 * j + i) few && t) (sym (of_b i small) ∙ ap (λ w. nat_eq (bit_at w i) 1) same ∙ of_c i small))

-- some words have no more bits than all
pub some_bits : (few : ℕ) (b : List ℕ) (n : ℕ) → n ≤ 4096 → length (filter (is_low_bit few b) (range_with_len 0 n)) ≤ low_bits_set few b
some_bits few b n within =
    let all : 4096 ≡ n + (4096 - n) = omega arith in
    let cut = ap (λ m. length (filter (is_low_bit few b) (range_with_len 0 m))) all ∙ count_cut (is_low_bit few b) n (4096 - n) in
    omega (arith, cut)

-- where none is counted, none passes
pub none_counted : (p : ℕ → Bool) (a n : ℕ) → length (filter p (range_with_len a n)) ≡ 0 → NonePasses p a (a + n)
none_counted p a zero none k above below = absurd (omega arith)
none_counted p a (suc n) none k above below = by (p a) refl none (λ e. none_counted p (a + 1) n e)
  where
    by : (t : Bool) → p a ≡ t → length (cond t (a ∷ filter p (range_with_len (a + 1) n)) (filter p (range_with_len (a + 1) n))) ≡ 0
        → (length (filter p (range_with_len (a + 1) n)) ≡ 0 → NonePasses p (a + 1) (a + 1 + n)) → p k ≡ false
    by true first e rest = absurd (cc)
    by false first e rest = elim (cases_eq k a) [
      | inl same ↦ ap p same ∙ first
      | inr other ↦ rest e k (omega (arith, above, other)) (omega (arith, below))
    ]

no_bits : (few i : ℕ) → is_low_bit few [] i ≡ false
no_bits few i = by (nat_lt i few) (ap (λ b. nat_eq b 1) (bit_at-zero (i % 8)))
  where
    by : (t : Bool) {u : Bool} → u ≡ false → (t && u) ≡ false
    by true e = e
    by false e = refl

-- a block that the image lacks has no bits
pub none_past : (I : List (List ℕ)) (lbn few : ℕ) → length I ≤ lbn → 0 ≡ low_bits_set few (block_at I lbn)
none_past I lbn few past =
    let none : low_bits_set few [] ≡ 0 = ap length (none_kept 0 4096) in
    sym (ap (low_bits_set few) (get_or_past I lbn [] past) ∙ none)
  where
    none_kept : (a n : ℕ) → filter (is_low_bit few []) (range_with_len a n) ≡ []
    none_kept a zero = refl
    none_kept a (suc n) = rw (no_bits few a) (none_kept (a + 1) n)

-- a count of free blocks is one of the bits of a block
pub free_in_is : (I : List (List ℕ)) (L : VolumeLayout) (k : ℕ) → k < length L.bitmap - 1 → free_in I L k ≡ low_bits_set (length I - 4096 * k) (block_at I (bitmap_lbn L k))
free_in_is I L k within = count_shift (is_free_block I L) (is_low_bit (length I - 4096 * k) (block_at I (bitmap_lbn L k))) (4096 * k) 0 4096 each
  where
    each : (i : ℕ) → i < 4096 → is_free_block I L (4096 * k + i) ≡ is_low_bit (length I - 4096 * k) (block_at I (bitmap_lbn L k)) (0 + i)
    each i small =
        let block : (4096 * k + i) / 4096 ≡ k = omega arith in
        let bit : (4096 * k + i) % 4096 ≡ i = omega arith in
        let start : i ≡ 0 + i = omega arith in
        let b = block_at I (bitmap_lbn L k) in
        ap (λ m. nat_lt (4096 * k + i) (length I) && (nat_lt (1 + m) (length L.bitmap) && has_bit (block_at I (slice_index L.bitmap (1 + m))) ((4096 * k + i) % 4096))) block
        ∙ ap (λ t. nat_lt (4096 * k + i) (length I) && (t && has_bit b ((4096 * k + i) % 4096))) (lt-ltb (1 + k) (length L.bitmap) (omega arith))
        ∙ ap (λ m. nat_lt (4096 * k + i) (length I) && has_bit b m) bit
        ∙ ap (λ t. t && has_bit b i) (sym (lt_shift (4096 * k) i (length I)))
        ∙ ap (is_low_bit (length I - 4096 * k) b) start

-- a count of clear bits is one of the bits of a block
pub clear_in_is : (I : List (List ℕ)) (h : Home) (k : ℕ) → k < h.index_bitmap_size → clear_in I h k ≡ 4096 - low_bits_set 4096 (block_at I (index_lbn h k))
clear_in_is I h k within =
    let b = block_at I (index_lbn h k) in
    let both = length-filter_both (is_low_bit 4096 b) (λ i. not (is_low_bit 4096 b i)) (λ i. refl) (range_with_len 0 4096) in
    let turned : clear_in I h k ≡ length (filter (λ i. not (is_low_bit 4096 b i)) (range_with_len 0 4096)) = count_shift (is_clear I h) (λ i. not (is_low_bit 4096 b i)) (4096 * k + 1) 0 4096 each in
    omega (arith, both, turned, length-range_with_len 0 4096)
  where
    each : (i : ℕ) → i < 4096 → is_clear I h (4096 * k + 1 + i) ≡ not (is_low_bit 4096 (block_at I (index_lbn h k)) (0 + i))
    each i small =
        let n : ℕ = 4096 * k + 1 + i in
        let b = block_at I (index_lbn h k) in
        let block : (n - 1) / 4096 ≡ k = omega arith in
        let bit : (n - 1) % 4096 ≡ i = omega arith in
        let start : i ≡ 0 + i = omega arith in
        let used : is_in_use I h n ≡ is_low_bit 4096 b i =
        ap (λ t. t && (nat_le n (4096 * h.index_bitmap_size) && has_bit (block_at I (h.index_bitmap_lbn + (n - 1) / 4096)) ((n - 1) % 4096))) (lt-ltb 0 n (omega arith))
        ∙ ap (λ t. t && has_bit (block_at I (h.index_bitmap_lbn + (n - 1) / 4096)) ((n - 1) % 4096)) (le-leb n (4096 * h.index_bitmap_size) (omega arith))
        ∙ ap (λ m. has_bit (block_at I (h.index_bitmap_lbn + m)) ((n - 1) % 4096)) block
        ∙ ap (has_bit b) bit
        ∙ ap (λ t. t && has_bit b i) (sym (lt-ltb i 4096 small)) in
        ap not used ∙ ap (λ m. not (is_low_bit 4096 b m)) start

-- all counts together
pub sum_free : (I : List (List ℕ)) (L : VolumeLayout) (n : ℕ) → sum (map (free_in I L) (range_with_len 0 n)) ≡ length (filter (is_free_block I L) (range_with_len 0 (4096 * n)))
sum_free I L zero = refl
sum_free I L (suc n) =
    let p = is_free_block I L in
    let one : suc n ≡ n + 1 = omega arith in
    let more : 4096 * n + 4096 ≡ 4096 * suc n = omega arith in
    ap (λ m. sum (map (free_in I L) (range_with_len 0 m))) one
    ∙ sum_by-map-range_with_len_more (λ x. x) (free_in I L) 0 n n (omega arith)
    ∙ ap (λ m. m + free_in I L n) (sum_free I L n)
    ∙ sym (count_cut p (4096 * n) 4096) ∙ ap (λ m. length (filter p (range_with_len 0 m))) more

not_covered : (I : List (List ℕ)) (L : VolumeLayout) (n : ℕ) → n ≡ length L.bitmap - 1 → NoneIsNext (is_free_block I L) (4096 * n)
not_covered I L n is k above = and_right (nat_lt k (length I)) _ (and_left _ _ (le-ltb (1 + k / 4096) (length L.bitmap) (omega (arith, is))))

-- The counts together are the free blocks.
pub free_total : (I : List (List ℕ)) (L : VolumeLayout) → sum (free_counts I L) ≡ length (free_blocks I L)
unfolding free_counts free_blocks
free_total I L =
    let n : ℕ = length L.bitmap - 1 in
    let p = is_free_block I L in
    sum_free I L n ∙ elim (cases_lt (4096 * n) (length I)) [
      | inl less ↦ sym (count_all p (4096 * n) (length I) (omega arith) (not_covered I L n refl))
      | inr more ↦ count_all p (length I) (4096 * n) more (λ k above. not_free_past I L k above)
    ]

pub free_few : (I : List (List ℕ)) (L : VolumeLayout) → sum (free_counts I L) ≤ length I
unfolding free_blocks
free_few I L = omega (arith, free_total I L, filter_few (is_free_block I L) 0 (length I))

-- a 0 in the counts of an image is one of the image
pub free_none : (I : List (List ℕ)) (L : VolumeLayout) → ShowsNone (free_counts I L) (free_in I L)
unfolding free_counts
free_none I L k shown =
    let n : ℕ = length L.bitmap - 1 in
    let within : k < n = let inside = slice_get_within (map (free_in I L) (range_with_len 0 n)) k 0 shown in omega (arith, inside, length-map-range_with_len (free_in I L) 0 n) in
    sym (get_or-map-range_with_len (free_in I L) 0 n k k 0 within (omega arith)) ∙ get_or_from_slice_get _ k 0 0 shown

pub clear_none : (I : List (List ℕ)) (h : Home) → ShowsNone (clear_counts I h) (clear_in I h)
unfolding clear_counts
clear_none I h k shown =
    let n : ℕ = h.index_bitmap_size in
    let within : k < n = let inside = slice_get_within (map (clear_in I h) (range_with_len 0 n)) k 0 shown in omega (arith, inside, length-map-range_with_len (clear_in I h) 0 n) in
    sym (get_or-map-range_with_len (clear_in I h) 0 n k k 0 within (omega arith)) ∙ get_or_from_slice_get _ k 0 0 shown

-- a block that the image lacks stays so
pub past_block : (I : List (List ℕ)) (d : Changes) (lbn : ℕ) → length I ≤ lbn → block_at (applied I d) lbn ≡ block_at I lbn
past_block I d lbn past = get_or_past (applied I d) lbn [] (omega (arith, length-applied I d)) ∙ sym (get_or_past I lbn [] past)

-- a block that a draft leaves
pub kept_block : (I : List (List ℕ)) (d : Changes) (lbn : ℕ) → change_at d lbn ≡ None → block_at (applied I d) lbn ≡ block_at I lbn
kept_block I d lbn none = elim (cases_lt lbn (length I)) [
  | inl inside ↦ block_at-applied I d lbn inside ∙ ap (λ o. unwrap_or o (block_at I lbn)) none
  | inr past ↦ past_block I d lbn past
]

-- where two blocks have the same 64 bytes, each bit of these is the same
same_bits : (b c : List ℕ) (k i : ℕ) → slice_range b (64 * k) (64 * k + 64) ≡ slice_range c (64 * k) (64 * k + 64) → i < 512 → has_bit b (512 * k + i) ≡ has_bit c (512 * k + i)
same_bits b c k i same low =
    let n : ℕ = 64 * k + 64 - 64 * k in
    let within : i / 8 < n = omega (arith, low) in
    let at : 64 * k + i / 8 ≡ (512 * k + i) / 8 = omega arith in
    let rest : i % 8 ≡ (512 * k + i) % 8 = omega arith in
    let byte_of : (xs : List ℕ) → get_or (take n (drop (64 * k) xs)) (i / 8) 0 ≡ get_or xs ((512 * k + i) / 8) 0 = λ xs.
    get_or-take n (drop (64 * k) xs) (i / 8) 0 within ∙ get_or-drop (64 * k) xs (i / 8) 0 ∙ ap (λ n. get_or xs n 0) at in
    ap (λ n. nat_eq (bit_at n ((512 * k + i) % 8)) 1) (sym (byte_of b) ∙ ap (λ l. get_or l (i / 8) 0) same ∙ byte_of c)

-- so these bits add the same to both counts
pub same_eighth : (few : ℕ) (b c : List ℕ) (k count : ℕ) → slice_range b (64 * k) (64 * k + 64) ≡ slice_range c (64 * k) (64 * k + 64) → IsCountedTo few b c (8 * k) count → IsCountedTo few b c (8 * (k + 1)) count
same_eighth few b c k count same before =
    let p = is_low_bit few b in
    let q = is_low_bit few c in
    let more : 64 * (8 * (k + 1)) ≡ 64 * (8 * k) + 512 = omega arith in
    let start : 512 * k ≡ 64 * (8 * k) = omega arith in
    let here = count_shift p q (512 * k) (512 * k) 512 (λ i low. ap (λ t. nat_lt (512 * k + i) few && t) (same_bits b c k i same low)) in
    let cut : (r : ℕ → Bool) → length (filter r (range_with_len 0 (64 * (8 * (k + 1))))) ≡ length (filter r (range_with_len 0 (64 * (8 * k)))) + length (filter r (range_with_len (512 * k) 512)) = λ r.
    ap (λ n. length (filter r (range_with_len 0 n))) more ∙ count_cut r (64 * (8 * k)) 512 ∙ ap (λ n. length (filter r (range_with_len 0 (64 * (8 * k)))) + length (filter r (range_with_len n 512))) (sym start) in
    omega (arith, before, here, cut p, cut q)

-- once the words of a block are all passed, its bits are counted
pub all_words : (few : ℕ) (b c : List ℕ) (j count : ℕ) → j ≡ 64 → IsCountedTo few b c j count → count ≡ low_bits_set few c
all_words few b c j count all is =
    let end : 64 * j ≡ 4096 = omega arith in
    let whole : (x : List ℕ) → length (filter (is_low_bit few x) (range_with_len 0 (64 * j))) ≡ low_bits_set few x = λ x. ap (λ n. length (filter (is_low_bit few x) (range_with_len 0 n))) end in
    omega (arith, is, whole b, whole c)
