-- INDEXF.SYS grown by free blocks, and nothing else done: which blocks and numbers are free then.
use Rattle.std.proofs.Common.{◌≡◌, ℕ, ◌+◌, ◌*◌, ◌≤◌, refl, ap, sym, ◌∙◌, subst, Bool, true, false, cond, not, ◌&&◌, nat_le, nat_lt, List, [], ◌∷◌, ◌++◌, length, drop, take, get_or, Option, Some, None, arith, inl, inr}
use Rattle.std.specs.Prelude.{◌⊎◌}
use Rattle.std.specs.Option.{option_map_or}
use Rattle.std.specs.List.{All, Contains, filter, range_with_len}
use Rattle.std.proofs.lemmas.List.{get_or-drop, get_or-take, length-append, length-drop, length-take, take-append-drop}
use Rattle.std.proofs.lemmas.List.Elements.{All-head, All-tail, Contains-get_or, filter-append}
use Rattle.std.proofs.lemmas.Option.{get_or_from_slice_get, slice_get_within}
use Rattle.ods_base.specs.Block.{zeros}
use Rattle.ods_base.specs.Image.{IsImage, block_at}
use Rattle.ods_base.proofs.Blocks.{byte-zeros}
use Rattle.ods_header.specs.Header.{sequence_of}
use Rattle.ods_space.specs.Layout.{VolumeLayout, greatest_number, header_at, last_number, place_of}
use Rattle.ods_space.specs.Free.{free_blocks, free_numbers, is_free_block, is_open_number}
use Rattle.ods_alloc.specs.Extend.{is_one_of}
use Rattle.ods_alloc.proofs.NewHeaders.{rising_apart}
use Rattle.ods_mount.specs.Sound.{IsSoundBy}
use Rattle.ods_state.specs.IndexGrowth.{CanGrowIndex, GrowsIndex}
use Rattle.ods_state.proofs.IndexGrown as grown
use Rattle.ods_state.proofs.IndexGrown.{longer}
use Rattle.ods_state.proofs.Rising.{free_rise, stands_at}
use Rattle.ods_state.proofs.Taken.{none_of, one_of}

-- a list kept by two tests, one after the other
filter_and : (p q : ℕ → Bool) (ys : List ℕ) → filter (λ y. p y && q y) ys ≡ filter q (filter p ys)
filter_and p q [] = refl
filter_and p q (y ∷ ys) = by (p y) (filter_and p q ys)
  where
    by : (a : Bool) → filter (λ z. p z && q z) ys ≡ filter q (filter p ys)
        → cond (a && q y) (y ∷ filter (λ z. p z && q z) ys) (filter (λ z. p z && q z) ys) ≡ filter q (cond a (y ∷ filter p ys) (filter p ys))
    by true rest = λ i. cond (q y) (y ∷ rest i) (rest i)
    by false rest = rest

pub keep_all : (q : ℕ → Bool) (ys : List ℕ) → All (λ y. q y ≡ true) ys → filter q ys ≡ ys
keep_all q [] all = refl
keep_all q (y ∷ ys) all =
    ap (λ b. cond b (y ∷ filter q ys) (filter q ys)) (All-head (λ z. q z ≡ true) y ys all) ∙ ap (λ l. y ∷ l) (keep_all q ys (All-tail (λ z. q z ≡ true) y ys all))

keep_none : (q : ℕ → Bool) (ys : List ℕ) → All (λ y. q y ≡ false) ys → filter q ys ≡ []
keep_none q [] all = refl
keep_none q (y ∷ ys) all =
    ap (λ b. cond b (y ∷ filter q ys) (filter q ys)) (All-head (λ z. q z ≡ false) y ys all) ∙ keep_none q ys (All-tail (λ z. q z ≡ false) y ys all)

-- no free block stands both among the lowest and behind them
pub apart_from_lowest : (I : List (List ℕ)) (L : VolumeLayout) (count y : ℕ) → Contains (take count (free_blocks I L)) y → ¬ Contains (drop count (free_blocks I L)) y
apart_from_lowest I L count y a b =
    let F : List ℕ = free_blocks I L in
    let at = stands_at (take count F) y a in
    let to = stands_at (drop count F) y b in
    let few = slice_get_within (take count F) at.0 y at.1 in
    let many = slice_get_within (drop count F) to.0 y to.1 in
    let one : get_or F at.0 0 ≡ y = sym (get_or-take count F at.0 0 (omega (arith, few, length-take count F))) ∙ get_or_from_slice_get (take count F) at.0 y 0 at.1 in
    let two : get_or F (count + to.0) 0 ≡ y = sym (get_or-drop count F to.0 0) ∙ get_or_from_slice_get (drop count F) to.0 y 0 to.1 in
    rising_apart F (free_rise I L) at.0 (count + to.0) (omega (arith, few, length-take count F)) (omega (arith, many, length-drop count F)) (one ∙ sym two)

module _ {I K : List (List ℕ)} {L : VolumeLayout} {xs : List ℕ} (image : IsImage I) (S : IsSoundBy I L) (can : CanGrowIndex I L xs) (g : GrowsIndex I L xs K) where
  abbrev M : VolumeLayout
  M = longer L xs

  -- the sequence word of each number stays; without a block it was 0, and is
  pub sequence_stays : (n : ℕ) → sequence_of (header_at K M n) ≡ sequence_of (header_at I L n)
  sequence_stays n = by (place_of L n) refl
    where
      is_zero : (header_at K M n ≡ []) ⊎ (header_at K M n ≡ zeros) → sequence_of (header_at K M n) ≡ 0
      is_zero (inl e) = ap sequence_of e
      is_zero (inr e) = ap sequence_of e ∙ (λ i. byte-zeros 4 i + 256 * byte-zeros 5 i)

      by : (o : Option ℕ) → place_of L n ≡ o → sequence_of (header_at K M n) ≡ sequence_of (header_at I L n)
      by None none = is_zero (grown.new_header image S can g n none) ∙ sym (ap (λ o. sequence_of (option_map_or (block_at I) o [])) none)
      by (Some p) place = ap sequence_of (grown.with_place image S can g K n p place) ∙ grown.sequences_stay image S can g n

  pub open_stays : (most n : ℕ) → is_open_number K M most n ≡ is_open_number I L most n
  open_stays most n = λ i. nat_le 6 n && (nat_le n most && (not (grown.used_stays image S can g n i) && nat_lt (sequence_stays n i) 65535))

  pub free_are : free_blocks K M ≡ filter (λ x. not (is_one_of xs x)) (free_blocks I L)
  unfolding free_blocks
  free_are =
      let same : filter (is_free_block K M) (range_with_len 0 (length K)) ≡ filter (λ x. is_free_block I L x && not (is_one_of xs x)) (range_with_len 0 (length I)) = (λ i. filter (λ x. grown.free_now image S can g x i) (range_with_len 0 (g.size i))) in
      same ∙ filter_and (is_free_block I L) (λ x. not (is_one_of xs x)) (range_with_len 0 (length I))

  -- where it has got the lowest, those behind them are free
  pub free_behind : (count : ℕ) → xs ≡ take count (free_blocks I L) → free_blocks K M ≡ drop count (free_blocks I L)
  free_behind count lowest =
      let F : List ℕ = free_blocks I L in
      let q : ℕ → Bool = λ x. not (is_one_of xs x) in
      let A : List ℕ = take count F in
      let B : List ℕ = drop count F in
      let gone : filter q A ≡ [] = keep_none q A (λ i d low. ap not (one_of xs (get_or A i d) (subst (λ l. Contains l (get_or A i d)) (sym lowest) (Contains-get_or A i d low)))) in
      let kept : filter q B ≡ B = keep_all q B (λ i d low.
      ap not (none_of xs (get_or B i d) (λ among. apart_from_lowest I L count (get_or B i d) (subst (λ l. Contains l (get_or B i d)) lowest among) (Contains-get_or B i d low)))) in
      free_are ∙ ap (filter q) (sym (take-append-drop count F)) ∙ filter-append q A B ∙ ap (λ l. l ++ filter q B) gone ∙ kept

  -- there are as many numbers more
  pub last_now : (count : ℕ) → length xs ≡ count → last_number L + count ≤ greatest_number L.home → last_number M ≡ last_number L + count
  last_now count long most = let size = S.index_bitmap_size in omega (arith, long, most, size, length-append L.index xs)

  -- and those are free that were open up to the last of them
  pub numbers_now : (count : ℕ) → length xs ≡ count → last_number L + count ≤ greatest_number L.home
      → free_numbers K M ≡ filter (is_open_number I L (last_number L + count)) (range_with_len 1 (last_number L + count))
  unfolding free_numbers
  numbers_now count long most = let last = last_now count long most in λ i. filter (λ n. open_stays (last i) n i) (range_with_len 1 (last i))
