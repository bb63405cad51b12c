-- The first header of a file is written over blocks that differ from those of the volume in what is taken alone: the file is ready to grow.
-- This serves Create, Extend, and an Enter that takes a block.
use Rattle.std.proofs.Common.{◌≡◌, ◌≢◌, ℕ, ◌+◌, ◌<◌, refl, ap, sym, ◌∙◌, subst, true, List, [], length, Option, Some, None, arith}
use Rattle.std.specs.Prelude.{slice_set, is_some}
use Rattle.std.specs.List.{Contains}
use Rattle.std.specs.Option.{option_map_or}
use Rattle.std.proofs.lemmas.List.{length-set, get_or-set_same, get_or-set_other}
use Rattle.ods_base.specs.Image.{block_at}
use Rattle.ods_space.specs.Layout.{VolumeLayout, header_at, place_of}
use Rattle.ods_alloc.proofs.FreeTests.{IsFreeNumber, free_inside, free_number}
use Rattle.ods_alloc.proofs.NewHeaders.{free_has_place}
use Rattle.ods_alloc.proofs.Places.{place_in_index, place_inside}
use Rattle.ods_mount.specs.Sound.{IsSoundBy}
use Rattle.ods_state.specs.Wants.{allocated_blocks}
use Rattle.ods_state.specs.Growth.{IsFirstFor, IsReady, IsTaking}
use Rattle.ods_state.proofs.Bookkeeping.{well_placed}
use Rattle.ods_state.proofs.GrowthReady.{allocated_not_index}
use Rattle.ods_state.proofs.OpenNumbers.{allocated_number_is_free}
use Rattle.ods_state.proofs.Taken.{allocated_block_is_free}

-- a taken block is one of the volume's
pub taken_inside : (I : List (List ℕ)) (L : VolumeLayout) (count y : ℕ) → Contains (allocated_blocks I L count) y → y < length I
taken_inside I L count y c = free_inside I L y (allocated_block_is_free I L count y c)

-- Z is I but for the taken blocks, and K is Z with c as header n, whose place is x
pub record IsWritten (I Z K : List (List ℕ)) (L : VolumeLayout) (n x count : ℕ) (c : List ℕ) : Type 0 where
  pub sound : IsSoundBy I L
  pub place : place_of L n ≡ Some x
  pub long : length Z ≡ length I
  pub elsewhere : (y : ℕ) → ¬ Contains (allocated_blocks I L count) y → block_at Z y ≡ block_at I y
  pub is : K ≡ slice_set Z x c

module _ {I Z K : List (List ℕ)} {L : VolumeLayout} {n x count : ℕ} {c : List ℕ} (w : IsWritten I Z K L n x count c) where
  inside : x < length I
  inside = place_inside (length I) L n x (record { index = w.sound.layout.index.whole.inside; bitmap = w.sound.layout.bitmap.whole.inside; places = well_placed I L w.sound }) w.place

  -- the header stands in none of the blocks that are taken
  apart : (y : ℕ) → Contains (allocated_blocks I L count) y → y ≢ x
  apart y own e = allocated_not_index I L w.sound count y (1 + L.home.index_bitmap_size + n) own ((place_in_index L n x (well_placed I L w.sound) w.place).1 ∙ ap Some (sym e))

  beside : (y : ℕ) → y ≢ x → block_at K y ≡ block_at Z y
  beside y ne = ap (λ J. block_at J y) w.is ∙ get_or-set_other Z x y c [] ne

  pub header_written : header_at K L n ≡ c
  header_written =
      let long = w.long in let low = inside in
      ap (λ o. option_map_or (block_at K) o []) w.place ∙ ap (λ J. block_at J x) w.is ∙ get_or-set_same Z x c [] (omega arith)

  pub taken_written : (y : ℕ) → Contains (allocated_blocks I L count) y → block_at K y ≡ block_at Z y
  taken_written y own = beside y (apart y own)

  pub is_ready : (headers : List ℕ) → IsFirstFor headers (header_at I L n) c n → IsReady I K L n headers count
  is_ready headers first = record {
    long = ap length w.is ∙ length-set Z x c ∙ w.long;
    first = subst (λ d. IsFirstFor headers (header_at I L n) d n) (sym header_written) first;
    elsewhere = λ y other far. beside y (λ e. other (w.place ∙ ap Some (sym e))) ∙ w.elsewhere y far;
  }

-- the first header of a new file has a place
pub first_place : (I : List (List ℕ)) (L : VolumeLayout) (n count : ℕ) (numbers : List ℕ) → IsTaking I L n [] [] count numbers → is_some (place_of L n) ≡ true
first_place I L n count numbers t = by (place_of L n) refl
  where
    free : IsFreeNumber I L n
    free = free_number I L n (allocated_number_is_free I L [] count n t.no_growth (subst (λ xs. Contains xs n) t.all (0, omega arith, refl)))

    by : (o : Option ℕ) → place_of L n ≡ o → is_some o ≡ true
    by (Some x) e = refl
    by None e = let low = free.low in absurd (free_has_place L n (omega arith) free.high e)
