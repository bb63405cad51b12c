-- Blocks appended to a chain whose last header has room for their pointers.
use Rattle.std.proofs.Common.{◌≡◌, ◌≢◌, ℕ, ◌+◌, ◌-◌, ◌/◌, ◌%◌, ◌<◌, false, not, ◌&&◌, IsTrue, List, [], length, get_or, slice_index, Option, Some, None, refl, sym, ap, ◌∙◌, subst, arith}
use Rattle.std.specs.Option.{option_map_or}
use Rattle.std.specs.List.{All, Contains}
use Rattle.std.proofs.Math.Bool.{or-false}
use Rattle.std.proofs.lemmas.Bool.{ltb-true}
use Rattle.std.proofs.lemmas.List.Elements.{Contains-get_or}
use Rattle.ods_base.specs.Block.{has_bit, word}
use Rattle.ods_base.specs.Image.{block_at}
use Rattle.ods_header.specs.Header.{IsValidHeader}
use Rattle.ods_header.specs.Pointing.{IsWithRuns}
use Rattle.ods_space.specs.Layout.{VolumeLayout, header_at, is_in_use, place_of}
use Rattle.ods_space.specs.Free.{is_covered, storage_bit}
use Rattle.ods_space.proofs.Parts.{contains_at}
use Rattle.ods_alloc.specs.Extend.{IsIndexBitmap, IsStorageBitmap, IsWellPlaced, cut, is_one_of}
use Rattle.ods_alloc.specs.Marks.{MarksBlocks}
use Rattle.ods_alloc.specs.Zeroed.{AppendsBlocks, IsZeroed}
use Rattle.ods_alloc.proofs.ManyBits.{cond_and}
use Rattle.ods_alloc.proofs.Places.{bitmaps_apart, place_in_index, place_not_index, place_not_storage, same_in_use, stands_in_storage, storage_at}

module _ (I Z H K : List (List ℕ)) (L : VolumeLayout) (end place : ℕ) (c : List ℕ) (blocks : List ℕ) (places : IsWellPlaced L)
    (at : place_of L end ≡ Some place) (z : IsZeroed I blocks Z) (here : block_at H place ≡ c) (elsewhere : (x : ℕ) → x ≢ place → block_at H x ≡ block_at Z x) (long : length H ≡ length Z)
    (marks : MarksBlocks H L blocks false K) (grown : IsWithRuns (header_at I L end) (cut blocks) c)
    (inside : All (λ b. b < length I) blocks) (apart : (b : ℕ) → Contains blocks b → ¬ Contains L.index b × ¬ Contains L.bitmap b) where
  in_index : Contains L.index place
  in_index = contains_at L.index (1 + L.home.index_bitmap_size + end) place (place_in_index L end place places at).1

  of_bitmap : (x : ℕ) → IsStorageBitmap L x → Contains L.bitmap x
  of_bitmap x s = let p = storage_at L x s in contains_at L.bitmap p.0 x p.1

  not_new : (x : ℕ) → IsIndexBitmap L x → ¬ Contains blocks x
  not_new x i c' =
      let low = i.0 in
      let high = i.1 in
      let k : ℕ = x - L.home.index_bitmap_lbn in
      let is : L.home.index_bitmap_lbn + k ≡ x = omega (arith, low) in
      (apart x c').0 (contains_at L.index (2 + k) x (places.index_place k (omega (arith, low, high)) ∙ ap Some is))

  -- a block that is none of the new ones, and not the header, has what it had but for its bits
  kept : (x : ℕ) → ¬ Contains blocks x → x ≢ place → block_at H x ≡ block_at I x
  kept x away other = elsewhere x other ∙ z.elsewhere x away

  storage_kept : (x : ℕ) → IsTrue (is_covered L x) → storage_bit H L x ≡ storage_bit I L x
  storage_kept x covered =
      let lbn : ℕ = slice_index L.bitmap (1 + x / 4096) in
      let stands : IsStorageBitmap L lbn = stands_in_storage L x (ltb-true (1 + x / 4096) (length L.bitmap) covered) in
      ap (λ b. has_bit b (x % 4096)) (kept lbn (λ c'. (apart lbn c').1 (of_bitmap lbn stands)) (λ e. place_not_storage L end lbn places (at ∙ ap Some (sym e)) stands))

  pub appends : AppendsBlocks I L end blocks K
  appends = record {
    size = marks.size ∙ long ∙ z.long;
    zeroed = λ i d low.
        let x : ℕ = get_or blocks i d in
        let new : Contains blocks x = Contains-get_or blocks i d low in
        marks.others x (λ s. (apart x new).1 (of_bitmap x s)) ∙ elsewhere x (λ e. (apart x new).0 (subst (Contains L.index) (sym e) in_index)) ∙ z.zero x new (inside i d low);
    last = subst (IsWithRuns (header_at I L end) (cut blocks)) (sym header_now) grown;
    bits = record {
      storage = λ x covered. marks.bits x covered ∙ cond_and (is_one_of blocks x) (storage_bit H L x) ∙ ap (λ b. b && not (is_one_of blocks x)) (storage_kept x covered);
      index_bits = λ n.
          same_in_use K I L (λ x i. marks.others x (λ s. bitmaps_apart L x places i s) ∙ kept x (not_new x i) (λ e. place_not_index L end x places (at ∙ ap Some (sym e)) i)) n
          ∙ sym (or-false (is_in_use I L.home n));
    };
    others = λ x no_bitmap no_end away. marks.others x no_bitmap ∙ kept x away (λ e. no_end (end, (0, omega arith, refl), at ∙ ap Some (sym e)));
  }
    where
      header_now : header_at K L end ≡ c
      header_now = ap (λ o. option_map_or (block_at K) o []) at ∙ marks.others place (λ s. place_not_storage L end place places at s) ∙ here

-- a valid header has a place
pub has_place : (I : List (List ℕ)) (L : VolumeLayout) (n : ℕ) → IsValidHeader (header_at I L n) n → (p : ℕ) × (place_of L n ≡ Some p)
has_place I L n valid = by (place_of L n) refl
  where
    by : (o : Option ℕ) → place_of L n ≡ o → (p : ℕ) × (place_of L n ≡ Some p)
    by None none =
        let level : 257 ≡ 0 = sym valid.header.level ∙ ap (λ o. word (option_map_or (block_at I) o []) 3) none in
        absurd (omega (arith, level))
    by (Some p) e = (p, e)
