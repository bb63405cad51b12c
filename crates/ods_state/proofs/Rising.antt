-- Free blocks and numbers are taken from the lowest up: they rise, and each stands once.
use Rattle.std.proofs.Common.{◌≡◌, ℕ, ◌+◌, ◌<◌, ◌≤◌, ap, sym, ◌∙◌, subst, List, length, take, get_or, Some, arith, inl, inr}
use Rattle.std.specs.Prelude.{◌⊎◌, min, slice_get}
use Rattle.std.specs.List.{Contains, range_with_len}
use Rattle.std.specs.List.Sorted.{IsStrictlyIncreasing}
use Rattle.std.proofs.lemmas.Bool.{cases_lt}
use Rattle.std.proofs.lemmas.List.{get_or-take, length-take}
use Rattle.std.proofs.lemmas.List.FromFn.{get_or-range_with_len, length-range_with_len}
use Rattle.std.proofs.lemmas.List.Kept.{IsStrictlyIncreasing-filter}
use Rattle.std.proofs.lemmas.Option.{slice_get-get_or, slice_get_within, get_or_from_slice_get}
use Rattle.ods_space.specs.Layout.{VolumeLayout, greatest_number}
use Rattle.ods_space.specs.Free.{is_free_block, is_open_number, free_blocks, open_numbers}
use Rattle.ods_alloc.proofs.NewHeaders.{rising_apart}
use Rattle.ods_state.specs.Wants.{allocated_blocks, allocated_count, allocated_numbers}

-- what stands at a place of a list is one of it, and the other way round
pub stands_at : (xs : List ℕ) (x : ℕ) → Contains xs x → (k : ℕ) × (slice_get xs k ≡ Some x)
stands_at xs x c = (c.0, slice_get-get_or xs c.0 x c.1 ∙ ap (λ y. Some y) c.2)

-- of numbers that rise each stands once
pub stands_once : (xs : List ℕ) → IsStrictlyIncreasing xs → (i j x : ℕ) → slice_get xs i ≡ Some x → slice_get xs j ≡ Some x → i ≡ j
stands_once xs rises i j x p q = by (cases_lt i j) (cases_lt j i)
  where
    same : get_or xs i 0 ≡ get_or xs j 0
    same = get_or_from_slice_get xs i x 0 p ∙ sym (get_or_from_slice_get xs j x 0 q)

    by : (i < j) ⊎ (j ≤ i) → (j < i) ⊎ (i ≤ j) → i ≡ j
    by (inl below) s = absurd (rising_apart xs rises i j below (slice_get_within xs j x q) same)
    by (inr le) (inl above) = absurd (rising_apart xs rises j i above (slice_get_within xs i x p) (sym same))
    by (inr le) (inr ge) = omega arith

-- the first of numbers that rise, rise
pub rises_in : (n : ℕ) (xs : List ℕ) → IsStrictlyIncreasing xs → IsStrictlyIncreasing (take n xs)
rises_in n xs rises k within =
    let long = length-take n xs in
    let few : k + 1 < min n (length xs) = subst (λ m. k + 1 < m) long within in
    let less = rises k (omega arith) in
    omega (arith, get_or-take n xs k 0 (omega arith), get_or-take n xs (k + 1) 0 (omega arith), less)

range_rises : (a n : ℕ) → IsStrictlyIncreasing (range_with_len a n)
range_rises a n k within =
    let long = length-range_with_len a n in
    omega (arith, get_or-range_with_len a n k 0 (omega arith), get_or-range_with_len a n (k + 1) 0 (omega arith))

module _ (I : List (List ℕ)) (L : VolumeLayout) where
  pub free_rise : IsStrictlyIncreasing (free_blocks I L)
  unfolding free_blocks
  free_rise = IsStrictlyIncreasing-filter (is_free_block I L) (range_with_len 0 (length I)) (range_rises 0 (length I))

  pub blocks_rise : (count : ℕ) → IsStrictlyIncreasing (allocated_blocks I L count)
  blocks_rise count = rises_in count (free_blocks I L) free_rise

  pub numbers_rise : (headers : List ℕ) (count : ℕ) → IsStrictlyIncreasing (allocated_numbers I L headers count)
  unfolding open_numbers
  numbers_rise headers count =
      let most : ℕ = greatest_number L.home in
      rises_in (allocated_count I L headers count) (open_numbers I L) (IsStrictlyIncreasing-filter (is_open_number I L most) (range_with_len 1 most) (range_rises 1 most))

  -- a block is taken once
  pub block_once : (count i j x : ℕ) → slice_get (allocated_blocks I L count) i ≡ Some x → slice_get (allocated_blocks I L count) j ≡ Some x → i ≡ j
  block_once count i j x p q = stands_once (allocated_blocks I L count) (blocks_rise count) i j x p q
