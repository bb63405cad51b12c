-- INDEXF.SYS grown by free blocks, and nothing else done: what the volume holds then, and what is free on it.
use Rattle.std.proofs.Common.{◌≡◌, ◌≢◌, ◌↔◌, ℕ, suc, ◌+◌, ◌-◌, ◌*◌, ◌<◌, ◌≤◌, refl, ap, append_assoc, sym, ◌∙◌, subst, Bool, true, false, cond, IsTrue, not, ◌&&◌, nat_eq, nat_le, nat_lt, List, [], ◌∷◌, ◌++◌, length, drop, take, get_or, Option, Some, None, arith, inl, inr}
use Rattle.std.specs.Prelude.{◌⊎◌, slice_get}
use Rattle.std.specs.List.{All, Contains, range_with_len}
use Rattle.std.specs.List.Sorted.{IsStrictlyIncreasing}
use Rattle.std.specs.Option.{option_map_or}
use Rattle.std.proofs.lemmas.Bool.{cases_eq, both_ways, ne_eqb}
use Rattle.std.proofs.lemmas.List.{get_or-drop, length-append, length-drop, take_all}
use Rattle.std.proofs.lemmas.List.Elements.{All-append, All-contains, All-drop, All-take, Contains-get_or, filter_passes}
use Rattle.std.proofs.lemmas.Option.{slice_get_within}
use Rattle.ods_base.specs.Block.{word, zeros}
use Rattle.ods_base.specs.Image.{IsImage, block_at}
use Rattle.ods_base.proofs.Blocks.{byte-zeros}
use Rattle.ods_header.specs.declared.home.Home.{Home}
use Rattle.ods_header.specs.Header.{IsValidHeader, blocks_of, next_number_of, next_sequence_of, next_volume_of, number_of, segment_of, sequence_of}
use Rattle.ods_space.specs.Layout.{VolumeLayout, header_at, header_by, is_in_use, last_number, most_index_blocks, place_by, place_of, with_places}
use Rattle.ods_space.specs.Chain.{Follows, IsChain, IsSegment, index_for}
use Rattle.ods_space.specs.Files.{HasBlocks, Holds, IsFile}
use Rattle.ods_space.specs.Free.{free_blocks, is_covered, is_free_block, storage_bit}
use Rattle.ods_space.proofs.Chains.{front_begins, head_of, same_chain}
use Rattle.ods_space.proofs.Growing.{place_stays}
use Rattle.ods_space.proofs.Parts.{contains_at}
use Rattle.ods_space.proofs.Surveys.{slice_get-append_left, slice_get-append_right}
use Rattle.ods_alloc.specs.Extend.{IsHeaderPlace, IsStorageBitmap, is_one_of, last_of}
use Rattle.ods_alloc.proofs.Cuts.{cut_blocks}
use Rattle.ods_alloc.proofs.FreeTests.{free_inside}
use Rattle.ods_alloc.proofs.NewHeaders.{free_has_place}
use Rattle.ods_alloc.proofs.Places.{storage_at}
use Rattle.ods_mount.specs.Sound.{IsSoundBy}
use Rattle.ods_state.specs.IndexGrowth.{CanGrowIndex, GrowsIndex}
use Rattle.ods_state.specs.Moves.{IsNextBlock}
use Rattle.ods_state.specs.Wants.{index_end}
use Rattle.ods_state.proofs.Bookkeeping.{bitmap_holds}
use Rattle.ods_state.proofs.Chains.{by_front, first_in, later_in}
use Rattle.ods_state.proofs.Grown.{and_alike, and_assoc, in_front_or_behind, or_false}
use Rattle.ods_state.proofs.IndexEnd.{end_in, end_is, end_valid}
use Rattle.ods_state.proofs.Links.{header_held, place_is_one, placed}
use Rattle.ods_state.proofs.OnlyBookkeeping.{first_or_later}
use Rattle.ods_state.proofs.Rising.{free_rise, rises_in, stands_once}
use Rattle.ods_state.proofs.RunsBehind.{blocks_grow, next_number_stays, segment_stays, sequence_stays, still_valid}
use Rattle.ods_state.proofs.Taken.{none_empty}

-- the layout with these blocks behind those of INDEXF.SYS
abbrev pub longer : VolumeLayout → List ℕ → VolumeLayout
longer L xs = record { home = L.home; index = L.index ++ xs; bitmap = L.bitmap }

-- so it is where they are within the most
pub is_longer : (L : VolumeLayout) (xs : List ℕ) → length xs ≤ most_index_blocks L.home - length L.index → with_places L xs ≡ longer L xs
is_longer L xs fits =
    let same : L.index ++ take (most_index_blocks L.home - length L.index) xs ≡ L.index ++ xs = ap (λ l. L.index ++ l) (take_all (most_index_blocks L.home - length L.index) xs fits) in
    λ i. record { home = L.home; index = same i; bitmap = L.bitmap }

-- a block of zeros, and no block, are no header
no_number : (b : List ℕ) (n : ℕ) → 1 ≤ n → b ≡ zeros → ¬ IsValidHeader b n
no_number b n some is valid =
    let number : number_of b ≡ n = valid.header.numbered in
    let none : number_of zeros ≡ 0 = (λ i. byte-zeros 2 i + 256 * byte-zeros 3 i) in
    absurd (omega (arith, number, ap number_of is, none))

nothing_there : (b : List ℕ) (n : ℕ) → 1 ≤ n → b ≡ [] → ¬ IsValidHeader b n
nothing_there b n some is valid =
    let number : number_of b ≡ n = valid.header.numbered in
    let none : number_of [] ≡ 0 = refl in
    absurd (omega (arith, number, ap number_of is, none))

drop_rises : (n : ℕ) (xs : List ℕ) → IsStrictlyIncreasing xs → IsStrictlyIncreasing (drop n xs)
drop_rises n xs rises k within =
    let long = length-drop n xs in
    let less = rises (n + k) (omega (arith, long, within)) in
    let next : get_or (drop n xs) (k + 1) 0 ≡ get_or xs (n + k + 1) 0 = get_or-drop n xs (k + 1) 0 ∙ ap (λ j. get_or xs j 0) (omega arith) in
    omega (arith, less, get_or-drop n xs k 0, next)

-- a place that is found by more blocks is one of those before, or one of these
pub new_place : (h : Home) (xs ys : List ℕ) (n x : ℕ) → place_by h xs n ≡ None → place_by h (xs ++ ys) n ≡ Some x → Contains ys x
new_place h xs ys n x none found = by (nat_eq n 0) (nat_le n 16) none found
  where
    behind : slice_get xs (1 + h.index_bitmap_size + n) ≡ None → (slice_get xs (1 + h.index_bitmap_size + n) ≡ Some x) ⊎ ((k : ℕ) × (1 + h.index_bitmap_size + n ≡ length xs + k) × (slice_get ys k ≡ Some x)) → Contains ys x
    behind e (inl f) = let wrong : None ≡ Some x = sym e ∙ f in absurd (cc)
    behind e (inr p) = contains_at ys p.0 x p.2

    by : (a b : Bool) → cond a None (cond b (Some (h.index_bitmap_lbn + h.index_bitmap_size + n - 1)) (slice_get xs (1 + h.index_bitmap_size + n))) ≡ None
        → cond a None (cond b (Some (h.index_bitmap_lbn + h.index_bitmap_size + n - 1)) (slice_get (xs ++ ys) (1 + h.index_bitmap_size + n))) ≡ Some x → Contains ys x
    by true b e f = absurd (cc)
    by false true e f = absurd (cc)
    by false false e f = behind e (in_front_or_behind xs ys (1 + h.index_bitmap_size + n) x f)

-- the blocks by which it can grow are free, so nothing holds them
pub new_free : {I : List (List ℕ)} {L : VolumeLayout} {xs : List ℕ} → CanGrowIndex I L xs → (x : ℕ) → Contains xs x → IsTrue (is_free_block I L x)
unfolding free_blocks
new_free {I = I} {L = L} {xs = xs} can x c =
    All-contains (λ y. is_free_block I L y ≡ true) (take (length xs) (drop can.before (free_blocks I L))) x
    (All-take (λ y. is_free_block I L y ≡ true) (length xs) (drop can.before (free_blocks I L))
    (All-drop (λ y. is_free_block I L y ≡ true) can.before (free_blocks I L) (filter_passes (is_free_block I L) (range_with_len 0 (length I)))))
    (subst (λ l. Contains l x) can.free c)

pub new_not_held : {I : List (List ℕ)} {L : VolumeLayout} {xs : List ℕ} → IsSoundBy I L → CanGrowIndex I L xs → (m v x : ℕ) → Holds I L m v x → ¬ Contains xs x
new_not_held {I = I} {L = L} S can m v x held c = both_ways (is_free_block I L x) (S.not_free m v x held) (new_free can x c)

module _ {I K : List (List ℕ)} {L : VolumeLayout} {xs : List ℕ} (image : IsImage I) (S : IsSoundBy I L) (can : CanGrowIndex I L xs) (g : GrowsIndex I L xs K) where
  abbrev M : VolumeLayout
  M = longer L xs

  abbrev e : ℕ
  e = index_end I L

  abbrev behind : List ℕ
  behind = S.layout.index.others

  -- the blocks are free, and each stands once
  pub new_is_free : (x : ℕ) → Contains xs x → IsTrue (is_free_block I L x)
  new_is_free = new_free can

  pub new_once : (i j x : ℕ) → slice_get xs i ≡ Some x → slice_get xs j ≡ Some x → i ≡ j
  new_once = stands_once xs (subst IsStrictlyIncreasing (sym can.free) (rises_in (length xs) (drop can.before (free_blocks I L)) (drop_rises can.before (free_blocks I L) (free_rise I L))))

  pub not_held : (m v x : ℕ) → Holds I L m v x → ¬ Contains xs x
  not_held = new_not_held S can

  -- a block that a file held stays, but for the storage bitmap and the last header of INDEXF.SYS
  pub held_stays : (m v x : ℕ) → Holds I L m v x → m ≢ 2 → place_of L e ≢ Some x → block_at K x ≡ block_at I x
  held_stays m v x held two away = g.others x no_bitmap no_end (not_held m v x held)
    where
      no_bitmap : ¬ IsStorageBitmap L x
      no_bitmap s = let at = storage_at L x s in two (S.once m 2 v (at.0 + 1) x held (bitmap_holds I L S at.0 x at.1)).0

      no_end : ¬ IsHeaderPlace L (e ∷ []) x
      no_end p = by (first_or_later e [] p.0 p.1)
        where
          by : (e ≡ p.0) ⊎ Contains [] p.0 → ⊥
          by (inl is) = away (ap (place_of L) is ∙ p.2)
          by (inr c) = none_empty p.0 c

  -- each header but the last of INDEXF.SYS stays
  pub others_stay : (n : ℕ) → n ≢ e → header_at K L n ≡ header_at I L n
  others_stay n ne = by (place_of L n) refl
    where
      by : (o : Option ℕ) → place_of L n ≡ o → option_map_or (block_at K) o [] ≡ option_map_or (block_at I) o []
      by None place = refl
      by (Some p) place = held_stays 1 (2 + L.home.index_bitmap_size + n) p (header_held I L S n p place) (λ w. absurd (omega arith)) (λ q. ne (place_is_one I L S n e p place q))

  -- a header with a place keeps it
  pub with_place : (X : List (List ℕ)) (n p : ℕ) → place_of L n ≡ Some p → header_at X M n ≡ header_at X L n
  with_place X n p place = ap (λ o. option_map_or (block_at X) o []) (place_stays L.home L.index xs n p place) ∙ sym (ap (λ o. option_map_or (block_at X) o []) place)

  pub numbered_stays : (X : List (List ℕ)) (n : ℕ) → 1 ≤ n → n ≤ last_number L → header_at X M n ≡ header_at X L n
  numbered_stays X n low high = by (place_of L n) refl
    where
      by : (o : Option ℕ) → place_of L n ≡ o → header_at X M n ≡ header_at X L n
      by None none = absurd (free_has_place L n low high none)
      by (Some p) place = with_place X n p place

  -- one without a place gets none, or zeros
  pub new_header : (n : ℕ) → place_of L n ≡ None → (header_at K M n ≡ []) ⊎ (header_at K M n ≡ zeros)
  new_header n none = by (place_of M n) refl
    where
      by : (o : Option ℕ) → place_of M n ≡ o → (option_map_or (block_at K) o [] ≡ []) ⊎ (option_map_or (block_at K) o [] ≡ zeros)
      by None is = inl refl
      by (Some x) is = inr (All-contains (λ y. block_at K y ≡ zeros) xs x g.zeroed (new_place L.home L.index xs n x none is))

  -- a valid header had a place
  pub valid_had_place : (n : ℕ) → 1 ≤ n → IsValidHeader (header_at K M n) n → (p : ℕ) × (place_of L n ≡ Some p)
  valid_had_place n some valid = by (place_of L n) refl
    where
      not_new : (header_at K M n ≡ []) ⊎ (header_at K M n ≡ zeros) → ⊥
      not_new (inl is) = nothing_there (header_at K M n) n some is valid
      not_new (inr is) = no_number (header_at K M n) n some is valid

      by : (o : Option ℕ) → place_of L n ≡ o → (p : ℕ) × (place_of L n ≡ Some p)
      by None none = absurd (not_new (new_header n none))
      by (Some p) place = (p, place)

  -- and a valid one has a place
  pub valid_in_place : (n : ℕ) → 1 ≤ n → IsValidHeader (header_at I L n) n → header_at K M n ≡ header_at K L n
  valid_in_place n some valid = by (place_of L n) refl
    where
      by : (o : Option ℕ) → place_of L n ≡ o → header_at K M n ≡ header_at K L n
      by None none = absurd (nothing_there (header_at I L n) n some (ap (λ o. option_map_or (block_at I) o []) none) valid)
      by (Some p) place = with_place K n p place

  -- the last header of INDEXF.SYS as it is now
  pub end_now_valid : IsValidHeader (header_at K L e) e
  end_now_valid = still_valid g.last (end_valid I L image S) can.room

  pub segments_stay : (n : ℕ) → segment_of (header_at K L n) ≡ segment_of (header_at I L n)
  segments_stay n = by (cases_eq n e)
    where
      by : (n ≡ e) ⊎ (n ≢ e) → segment_of (header_at K L n) ≡ segment_of (header_at I L n)
      by (inl is) = ap (λ m. segment_of (header_at K L m)) is ∙ segment_stays g.last (end_valid I L image S) can.room ∙ sym (ap (λ m. segment_of (header_at I L m)) is)
      by (inr ne) = ap segment_of (others_stay n ne)

  pub sequences_stay : (n : ℕ) → sequence_of (header_at K L n) ≡ sequence_of (header_at I L n)
  sequences_stay n = by (cases_eq n e)
    where
      by : (n ≡ e) ⊎ (n ≢ e) → sequence_of (header_at K L n) ≡ sequence_of (header_at I L n)
      by (inl is) = ap (λ m. sequence_of (header_at K L m)) is ∙ sequence_stays g.last (end_valid I L image S) can.room ∙ sym (ap (λ m. sequence_of (header_at I L m)) is)
      by (inr ne) = ap sequence_of (others_stay n ne)

  pub valid_stays : (n : ℕ) → IsValidHeader (header_at I L n) n → IsValidHeader (header_at K L n) n
  valid_stays n valid = by (cases_eq n e)
    where
      by : (n ≡ e) ⊎ (n ≢ e) → IsValidHeader (header_at K L n) n
      by (inl is) = subst (λ m. IsValidHeader (header_at K L m) m) (sym is) end_now_valid
      by (inr ne) = subst (λ b. IsValidHeader b n) (sym (others_stay n ne)) valid

  pub valid_was : (n : ℕ) → IsValidHeader (header_at K L n) n → IsValidHeader (header_at I L n) n
  valid_was n valid = by (cases_eq n e)
    where
      by : (n ≡ e) ⊎ (n ≢ e) → IsValidHeader (header_at I L n) n
      by (inl is) = subst (λ m. IsValidHeader (header_at I L m) m) (sym is) (end_valid I L image S)
      by (inr ne) = subst (λ b. IsValidHeader b n) (others_stay n ne) valid

  -- no index bit changes
  pub used_stays : (n : ℕ) → is_in_use K L.home n ≡ is_in_use I L.home n
  used_stays n = g.bits.index_bits n ∙ or_false (is_in_use I L.home n)

  -- the last number does not fall; and one with a place that is within the last number now was before
  pub last_grows : (n : ℕ) → n ≤ last_number L → n ≤ last_number M
  last_grows n within = let long = length-append L.index xs in omega (arith, long, within)

  pub was_within : (n p : ℕ) → place_of L n ≡ Some p → n ≤ last_number M → n ≤ last_number L
  was_within n p place within =
      let inside = slice_get_within L.index (1 + L.home.index_bitmap_size + n) p (placed I L S n p place) in
      omega (arith, inside, within)

  pub stays_file : (n : ℕ) → IsFile I L n → IsFile K M n
  stays_file n f =
      let same = numbered_stays K n f.first f.last in
      record {
        first = f.first;
        last = last_grows n f.last;
        in_use = subst IsTrue (sym (used_stays n)) f.in_use;
        valid = subst (λ b. IsValidHeader b n) (sym same) (valid_stays n f.valid);
        segment = ap segment_of same ∙ segments_stay n ∙ f.segment;
      }

  pub was_file : (n : ℕ) → IsFile K M n → IsFile I L n
  was_file n f =
      let place = valid_had_place n f.first f.valid in
      let same = with_place K n place.0 place.1 in
      record {
        first = f.first;
        last = was_within n place.0 place.1 f.last;
        in_use = subst IsTrue (used_stays n) f.in_use;
        valid = valid_was n (subst (λ b. IsValidHeader b n) same f.valid);
        segment = sym (segments_stay n) ∙ sym (ap segment_of same) ∙ f.segment;
      }

  pub next_numbers_stay : (n : ℕ) → next_number_of (header_at K L n) ≡ next_number_of (header_at I L n)
  next_numbers_stay n = by (cases_eq n e)
    where
      by : (n ≡ e) ⊎ (n ≢ e) → next_number_of (header_at K L n) ≡ next_number_of (header_at I L n)
      by (inl is) = ap (λ m. next_number_of (header_at K L m)) is ∙ next_number_stays g.last (end_valid I L image S) can.room ∙ sym (ap (λ m. next_number_of (header_at I L m)) is)
      by (inr ne) = ap next_number_of (others_stay n ne)

  pub same_header : (n : ℕ) → 1 ≤ n → n ≤ last_number L → n ≢ e → header_at K M n ≡ header_at I L n
  same_header n low high ne = numbered_stays K n low high ∙ others_stay n ne

  same_segment : (n k : ℕ) → n ≢ e → IsSegment I L.home L.index (last_number L) n k → IsSegment K L.home (L.index ++ xs) (last_number M) n k
  same_segment n k ne s =
      let same = same_header n s.first s.last ne in
      record {
        first = s.first;
        last = last_grows n s.last;
        in_use = subst IsTrue (sym (used_stays n)) s.in_use;
        valid = subst (λ b. IsValidHeader b n) (sym same) s.valid;
        segment = ap segment_of same ∙ s.segment;
      }

  -- the chain of another file
  moves_on : (front : List ℕ) (k n : ℕ) (ms all : List ℕ) → ((m : ℕ) → Contains (n ∷ ms) m → m ≢ e) → Follows I L.home (Some L.index) front k n ms all → Follows K L.home (Some (L.index ++ xs)) front k n ms all
  moves_on front k n [] all far f =
      let same = same_header n f.0.first f.0.last (far n (first_in n [])) in
      (same_segment n k (far n (first_in n [])) f.0, ap next_number_of same ∙ f.1, f.2 ∙ ap (λ b. front ++ blocks_of b) (sym same))
  moves_on front k n (m ∷ ms) all far f =
      let ne = far n (first_in n (m ∷ ms)) in
      let same = same_header n f.0.first f.0.last ne in
      let next = head_of I L.home (Some L.index) (front ++ blocks_of (header_at I L n)) (suc k) m ms all f.4 in
      let same_next = same_header m next.first next.last (far m (later_in n (m ∷ ms) m (first_in m ms))) in (
        same_segment n k ne f.0,
        ap next_number_of same ∙ f.1,
        ap next_volume_of same ∙ f.2,
        ap sequence_of same_next ∙ f.3 ∙ sym (ap next_sequence_of same),
        subst (λ b. Follows K L.home (Some (L.index ++ xs)) (front ++ blocks_of b) (suc k) m ms all) (sym same)
            (moves_on (front ++ blocks_of (header_at I L n)) (suc k) m ms all (λ x c. far x (later_in n (m ∷ ms) x c)) f.4),
      )

  -- by the blocks before it a header of INDEXF.SYS is found as by all of them
  found : (front more : List ℕ) (n : ℕ) → L.index ≡ front ++ more → 1 ≤ n → IsValidHeader (header_by I L.home front n) n → (X : List (List ℕ)) → header_by X L.home front n ≡ header_at X L n
  found front more n is some valid X = by (by_front L.home front more n (place_by L.home front n) refl)
    where
      by : (place_by L.home front n ≡ None) ⊎ ((Y : List (List ℕ)) → header_by Y L.home front n ≡ header_by Y L.home (front ++ more) n) → header_by X L.home front n ≡ header_at X L n
      by (inl none) = absurd (nothing_there (header_by I L.home front n) n some (ap (λ o. option_map_or (block_at I) o []) none) valid)
      by (inr same) = same X ∙ ap (λ l. header_by X L.home l n) (sym is)

  index_segment : (front : List ℕ) (k n : ℕ) (ms : List ℕ) → Follows I L.home None front k n ms L.index → segment_of (header_at I L (last_of n ms)) ≡ k + length ms
  index_segment front k n [] f =
      let r = front_begins I L.home None front k n [] L.index f in
      let at = ap segment_of (sym (found front r.0 n r.1 f.0.first f.0.valid I)) ∙ f.0.segment in
      omega (arith, at)
  index_segment front k n (m ∷ ms) f =
      let rest = index_segment (front ++ blocks_of (header_by I L.home front n)) (suc k) m ms f.4 in
      omega (arith, rest)

  grows : blocks_of (header_at K L e) ≡ blocks_of (header_at I L e) ++ xs
  grows = blocks_grow g.last (end_valid I L image S) can.room ∙ ap (λ l. blocks_of (header_at I L e) ++ l) (cut_blocks xs)

  -- and its own chain, of which the last header has more pointers
  index_on : (front : List ℕ) (k n : ℕ) (ms : List ℕ) → last_of n ms ≡ e → segment_of (header_at I L e) ≡ k + length ms
      → Follows I L.home None front k n ms L.index → Follows K L.home None front k n ms (L.index ++ xs)
  index_on front k n [] is end f =
      let r = front_begins I L.home None front k n [] L.index f in
      let old = found front r.0 n r.1 f.0.first f.0.valid I in
      let new = found front r.0 n r.1 f.0.first f.0.valid K in (
        record {
          first = f.0.first;
          last = f.0.last;
          in_use = subst IsTrue (sym (used_stays n)) f.0.in_use;
          valid = subst (λ b. IsValidHeader b n) (sym new) (valid_stays n (subst (λ b. IsValidHeader b n) old f.0.valid));
          segment = ap segment_of new ∙ segments_stay n ∙ sym (ap segment_of old) ∙ f.0.segment;
        },
        ap next_number_of new ∙ next_numbers_stay n ∙ sym (ap next_number_of old) ∙ f.1,
        ap (λ l. l ++ xs) f.2 ∙ append_assoc front (blocks_of (header_by I L.home front n)) xs
            ∙ ap (λ l. front ++ l) (ap (λ b. blocks_of b ++ xs) (old ∙ ap (header_at I L) is) ∙ sym grows ∙ ap blocks_of (sym (new ∙ ap (header_at K L) is))),
      )
  index_on front k n (m ∷ ms) is end f =
      let r = front_begins I L.home None front k n (m ∷ ms) L.index f in
      let old = found front r.0 n r.1 f.0.first f.0.valid I in
      let new = found front r.0 n r.1 f.0.first f.0.valid K in
      let here : segment_of (header_at I L n) ≡ k = ap segment_of (sym old) ∙ f.0.segment in
      let ne : n ≢ e = λ same. (let both = ap (λ q. segment_of (header_at I L q)) same in absurd (omega (arith, both, here, end))) in
      let same = new ∙ others_stay n ne ∙ sym old in
      let reached : List ℕ = front ++ blocks_of (header_by I L.home front n) in
      let next = head_of I L.home None reached (suc k) m ms L.index f.4 in
      let q = front_begins I L.home None reached (suc k) m ms L.index f.4 in
      let old_next = found reached q.0 m q.1 next.first next.valid I in
      let new_next = found reached q.0 m q.1 next.first next.valid K in (
        record {
          first = f.0.first;
          last = f.0.last;
          in_use = subst IsTrue (sym (used_stays n)) f.0.in_use;
          valid = subst (λ b. IsValidHeader b n) (sym same) f.0.valid;
          segment = ap segment_of same ∙ f.0.segment;
        },
        ap next_number_of same ∙ f.1,
        ap next_volume_of same ∙ f.2,
        subst (λ b. sequence_of (header_by K L.home (front ++ blocks_of b) m) ≡ next_sequence_of b) (sym same) (ap sequence_of new_next ∙ sequences_stay m ∙ sym (ap sequence_of old_next) ∙ f.3),
        subst (λ b. Follows K L.home None (front ++ blocks_of b) (suc k) m ms (L.index ++ xs)) (sym same) (index_on reached (suc k) m ms is (omega (arith, end)) f.4),
      )

  -- a header of INDEXF.SYS names the next one as before
  pub index_next : (front : List ℕ) (k n : ℕ) (ms : List ℕ) → Follows I L.home None front k n ms L.index
      → (next_number_of (header_at I L n) ≡ next_number_of (header_by I L.home front n)) × (next_number_of (header_at K M n) ≡ next_number_of (header_by I L.home front n))
  index_next front k n ms f =
      let r = front_begins I L.home None front k n ms L.index f in
      let first = head_of I L.home None front k n ms L.index f in
      let old = found front r.0 n r.1 first.first first.valid I in
      let valid : IsValidHeader (header_at I L n) n = subst (λ b. IsValidHeader b n) old first.valid in
      let same = ap next_number_of (valid_in_place n first.first valid) ∙ next_numbers_stay n in
      (ap next_number_of (sym old), same ∙ ap next_number_of (sym old))

  pub end_place : header_at K M e ≡ header_at K L e
  end_place = valid_in_place e some (end_valid I L image S)
    where
      some : 1 ≤ e
      some = by (cases_eq e 0)
        where
          by : (e ≡ 0) ⊎ (e ≢ 0) → 1 ≤ e
          by (inl none) =
              let level : word (header_at I L e) 3 ≡ 257 = (end_valid I L image S).header.level in
              let empty : word (header_at I L e) 3 ≡ 0 = ap (λ m. word (header_at I L m) 3) none in
              absurd (omega (arith, level, empty))
          by (inr more) = omega (arith, more)

  pub index_chain : IsChain K M 1 behind (L.index ++ xs)
  index_chain =
      let is = end_is I L image S in
      index_on [] 0 1 behind (sym is) (ap (λ q. segment_of (header_at I L q)) is ∙ index_segment [] 0 1 behind S.layout.index.whole.chain) S.layout.index.whole.chain

  new_inside : All (λ x. x < length K) xs
  new_inside i d low = subst (λ s. get_or xs i d < s) (sym g.size) (free_inside I L (get_or xs i d) (new_is_free (get_or xs i d) (Contains-get_or xs i d low)))

  pub index_now : HasBlocks K M 1 (L.index ++ xs)
  index_now = record {
    file = stays_file 1 S.layout.index.file;
    others = behind;
    whole = record { chain = index_chain; inside = All-append (λ x. x < length K) L.index xs (subst (λ k. All (λ x. x < k) L.index) (sym g.size) S.layout.index.whole.inside) new_inside };
  }

  -- another file has none of the headers of INDEXF.SYS
  pub far_from_end : (n : ℕ) (ms bs : List ℕ) → n ≢ 1 → IsFile I L n → IsChain I L n ms bs → (m : ℕ) → Contains (n ∷ ms) m → m ≢ e
  far_from_end n ms bs ne f chain m c is =
      ne (S.apart n 1 ms behind bs L.index e f S.layout.index.file chain S.layout.index.whole.chain (subst (Contains (n ∷ ms)) is c) (end_in I L image S))

  pub chain_stays : (n : ℕ) (ms bs : List ℕ) → n ≢ 1 → IsFile I L n → IsChain I L n ms bs → IsChain K M n ms bs
  chain_stays n ms bs ne f chain =
      let z = ne_eqb n 1 ne in
      subst (λ t. Follows K L.home (cond t None (Some (L.index ++ xs))) [] 0 n ms bs) (sym z)
      (moves_on [] 0 n ms bs (far_from_end n ms bs ne f chain) (subst (λ t. Follows I L.home (cond t None (Some L.index)) [] 0 n ms bs) z chain))

  pub blocks_stay : (n : ℕ) (bs : List ℕ) → n ≢ 1 → HasBlocks I L n bs → HasBlocks K M n bs
  blocks_stay n bs ne b = record {
    file = stays_file n b.file;
    others = b.others;
    whole = record { chain = chain_stays n b.others bs ne b.file b.whole.chain; inside = subst (λ k. All (λ x. x < k) bs) (sym g.size) b.whole.inside };
  }

  -- it had this chain
  pub chain_was : (n : ℕ) (ms bs : List ℕ) → n ≢ 1 → IsFile K M n → IsChain K M n ms bs → IsChain I L n ms bs × HasBlocks I L n bs
  chain_was n ms bs ne f c =
      let old = S.chains n (was_file n f) in
      let chain : IsChain I L n old.1.others old.0 = old.1.whole.chain in
      let is = same_chain K L.home (index_for M n) [] 0 n old.1.others old.0 ms bs (chain_stays n old.1.others old.0 ne old.1.file chain) c in
      (subst (λ l. IsChain I L n l bs) is.0 (subst (λ l. IsChain I L n old.1.others l) is.1 chain), subst (HasBlocks I L n) is.1 old.1)

  pub blocks_were : (n : ℕ) (bs : List ℕ) → n ≢ 1 → HasBlocks K M n bs → HasBlocks I L n bs
  blocks_were n bs ne b = (chain_was n b.others bs ne b.file b.whole.chain).1

  pub index_was : (ms bs : List ℕ) → IsChain K M 1 ms bs → (ms ≡ behind) × (bs ≡ L.index ++ xs)
  index_was ms bs c = same_chain K L.home None [] 0 1 ms bs behind (L.index ++ xs) c index_chain

  -- what is held: what was, and the new blocks by INDEXF.SYS behind its own
  abbrev pub IsNew : ℕ → ℕ → ℕ → Type 0
  IsNew m v x = IsNextBlock 1 (length L.index) xs m v x

  holds_after : (m v x : ℕ) → (m ≡ 1) ⊎ (m ≢ 1) → Holds K M m v x → Holds I L m v x ⊎ IsNew m v x
  holds_after m v x (inl is) h = by (in_front_or_behind L.index xs (v - 1) x at)
    where
      own : Holds K M 1 v x
      own = subst (λ k. Holds K M k v x) is h

      at : slice_get (L.index ++ xs) (v - 1) ≡ Some x
      at = ap (λ l. slice_get l (v - 1)) (sym (index_was own.file.others own.blocks own.file.whole.chain).1) ∙ own.named

      by : (slice_get L.index (v - 1) ≡ Some x) ⊎ ((k : ℕ) × (v - 1 ≡ length L.index + k) × (slice_get xs k ≡ Some x)) → Holds I L m v x ⊎ IsNew m v x
      by (inl there) = inl (subst (λ k. Holds I L k v x) (sym is) (record { blocks = L.index; file = S.layout.index; first = own.first; named = there }))
      by (inr p) = let first = own.first in let place = p.1 in inr (p.0, is, omega arith, p.2)
  holds_after m v x (inr ne) h = inl (record { blocks = h.blocks; file = blocks_were m h.blocks ne h.file; first = h.first; named = h.named })

  holds_still : (m v x : ℕ) → (m ≡ 1) ⊎ (m ≢ 1) → Holds I L m v x → Holds K M m v x
  holds_still m v x (inl is) h = subst (λ k. Holds K M k v x) (sym is) (record { blocks = L.index ++ xs; file = index_now; first = h.first; named = at })
    where
      own : Holds I L 1 v x
      own = subst (λ k. Holds I L k v x) is h

      blocks_are : own.blocks ≡ L.index
      blocks_are = (same_chain I L.home None [] 0 1 own.file.others own.blocks behind L.index own.file.whole.chain S.layout.index.whole.chain).1

      at : slice_get (L.index ++ xs) (v - 1) ≡ Some x
      at =
          let was : slice_get L.index (v - 1) ≡ Some x = ap (λ l. slice_get l (v - 1)) (sym blocks_are) ∙ own.named in
          slice_get-append_left L.index xs (v - 1) (slice_get_within L.index (v - 1) x was) ∙ was
  holds_still m v x (inr ne) h = record { blocks = h.blocks; file = blocks_stay m h.blocks ne h.file; first = h.first; named = h.named }

  holds_new : (m v x : ℕ) → IsNew m v x → Holds K M m v x
  holds_new m v x p = subst (λ k. Holds K M k v x) (sym p.1) (record {
    blocks = L.index ++ xs;
    file = index_now;
    first = let is = p.2 in omega arith;
    named = let is = p.2 in let at : v - 1 ≡ length L.index + p.0 = omega arith in ap (slice_get (L.index ++ xs)) at ∙ slice_get-append_right L.index xs p.0 ∙ p.3;
  })

  pub holds_now : (m v x : ℕ) → Holds K M m v x ↔ (Holds I L m v x ⊎ IsNew m v x)
  holds_now m v x = (holds_after m v x (cases_eq m 1), back)
    where
      back : Holds I L m v x ⊎ IsNew m v x → Holds K M m v x
      back (inl h) = holds_still m v x (cases_eq m 1) h
      back (inr p) = holds_new m v x p

  -- what is free: what was, but for the new blocks
  pub free_now : (x : ℕ) → is_free_block K M x ≡ (is_free_block I L x && not (is_one_of xs x))
  free_now x =
      ap (λ k. nat_lt x k && (is_covered L x && storage_bit K L x)) g.size
      ∙ ap (λ t. nat_lt x (length I) && t) (and_alike (not (is_one_of xs x)) (storage_bit I L x) (is_covered L x) (storage_bit K L x) (g.bits.storage x))
      ∙ sym (and_assoc (nat_lt x (length I)) (is_covered L x && storage_bit I L x) (not (is_one_of xs x)))
