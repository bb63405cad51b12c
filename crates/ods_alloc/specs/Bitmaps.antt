-- Both bitmaps as one: their blocks, the counts in them, and which of them change.
use Rattle.std.specs.Prelude.{◌≡◌, ℕ, ◌+◌, ◌-◌, ◌*◌, ◌<◌, ◌≤◌, List, length}
use Rattle.ods_base.specs.Image.{block_at}
use Rattle.ods_space.specs.Layout.{VolumeLayout}
use Rattle.ods_alloc.specs.declared.counting.Bitmap.{Bitmap}
use Rattle.ods_alloc.specs.declared.counting.Bitmap.TheVariants.{Storage, Index}
use Rattle.ods_alloc.specs.Counts.{bitmap_lbn, clear_counts, clear_in, free_counts, free_in, index_lbn, low_bits_set}

-- the number of blocks of a bitmap, without the storage control block
abbrev pub size_of : VolumeLayout → Bitmap → ℕ
size_of L Storage = length L.bitmap - 1
size_of L Index = L.home.index_bitmap_size

-- the LBN of block k of a bitmap
abbrev pub place_in : VolumeLayout → Bitmap → ℕ → ℕ
place_in L Storage k = bitmap_lbn L k
place_in L Index k = index_lbn L.home k

-- the count for block k with these bytes, in an image of this size
abbrev pub counted : ℕ → Bitmap → ℕ → List ℕ → ℕ
counted size Storage k b = low_bits_set (size - 4096 * k) b
counted size Index k b = 4096 - low_bits_set 4096 b

-- the count for block k: free blocks, or clear bits
abbrev pub count_in : List (List ℕ) → VolumeLayout → Bitmap → ℕ → ℕ
count_in I L Storage k = free_in I L k
count_in I L Index k = clear_in I L.home k

-- the counts of all blocks of a bitmap
abbrev pub counts_in : List (List ℕ) → VolumeLayout → Bitmap → List ℕ
counts_in I L Storage = free_counts I L
counts_in I L Index = clear_counts I L.home

-- the first `run` blocks of a bitmap are contiguous
pub record IsRun (L : VolumeLayout) (m : Bitmap) (run : ℕ) : Type 0 where
  pub within : run ≤ size_of L m
  pub places : (j : ℕ) → j < run → place_in L m j ≡ place_in L m 0 + j

-- `many` blocks of a bitmap from block k on are contiguous
pub record IsStretch (L : VolumeLayout) (m : Bitmap) (k many : ℕ) : Type 0 where
  pub some : 1 ≤ many
  pub within : k + many ≤ size_of L m
  pub places : (j : ℕ) → j < many → place_in L m (k + j) ≡ place_in L m k + j

-- the blocks from a on and below b are the same in both
abbrev pub AreKept : List (List ℕ) → List (List ℕ) → VolumeLayout → Bitmap → ℕ → ℕ → Type 0
AreKept I J L m a b = (j : ℕ) → a ≤ j → j < b → block_at J (place_in L m j) ≡ block_at I (place_in L m j)

-- block k is the first from `from` on that may differ, or no block differs
pub record IsNextChanged (I J : List (List ℕ)) (L : VolumeLayout) (m : Bitmap) (from k : ℕ) : Type 0 where
  pub above : from ≤ k
  pub within : k ≤ size_of L m
  pub kept : AreKept I J L m from k
  pub inside : k < size_of L m → place_in L m k < length I
