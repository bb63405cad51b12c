-- The number of free blocks, and the number of clear index bits, for each block of the two bitmaps.
use Rattle.std.specs.Prelude.{◌≡◌, ℕ, ◌+◌, ◌-◌, ◌*◌, ◌&&◌, Bool, nat_lt, List, length, map, Option, Some, slice_get, slice_index}
use Rattle.std.specs.Option.{MatchOption}
use Rattle.std.specs.List.{filter, range_with_len}
use Rattle.ods_base.specs.Block.{has_bit}
use Rattle.ods_header.specs.declared.home.Home.{Home}
use Rattle.ods_space.specs.Layout.{VolumeLayout}
use Rattle.ods_space.specs.Free.{is_free_block}
use Rattle.ods_alloc.specs.Scan.{is_clear}

-- the number of free blocks that block k of the storage bitmap covers (k from 0, without the storage control block): the 4,096 LBNs from 4,096 k on
abbrev pub free_in : List (List ℕ) → VolumeLayout → ℕ → ℕ
free_in I L k = length (filter (is_free_block I L) (range_with_len (4096 * k) 4096))

-- these numbers for each block of the storage bitmap
unfoldable pub free_counts : List (List ℕ) → VolumeLayout → List ℕ
free_counts I L = map (free_in I L) (range_with_len 0 (length L.bitmap - 1))

-- the number of clear bits in block k of the index bitmap: the 4,096 numbers from 4,096 k + 1 on
abbrev pub clear_in : List (List ℕ) → Home → ℕ → ℕ
clear_in I h k = length (filter (is_clear I h) (range_with_len (4096 * k + 1) 4096))

-- these numbers for each block of the index bitmap
unfoldable pub clear_counts : List (List ℕ) → Home → List ℕ
clear_counts I h = map (clear_in I h) (range_with_len 0 h.index_bitmap_size)

-- the counts of a volume: free blocks for each block of the storage bitmap, and clear bits for each block of the index bitmap
pub record Counts : Type 0 where
  pub blocks : List ℕ
  pub numbers : List ℕ

-- the counts of a volume
abbrev pub counts_of : List (List ℕ) → VolumeLayout → Counts
counts_of I L = record { blocks = free_counts I L; numbers = clear_counts I L.home }

-- the counts after a change of I to J: the counts of J, or None if the counts of I and J are equal
abbrev pub AreCountsAfter : List (List ℕ) → List (List ℕ) → VolumeLayout → Option Counts → Type 0
AreCountsAfter I J L counts = MatchOption counts (counts_of J L ≡ counts_of I L) (λ now. now ≡ counts_of J L)

-- bit i of a block is set, and is among the first `few`
abbrev pub is_low_bit : ℕ → List ℕ → ℕ → Bool
is_low_bit few b i = nat_lt i few && has_bit b i

-- the number of set bits among the first `few` bits of a block
abbrev pub low_bits_set : ℕ → List ℕ → ℕ
low_bits_set few b = length (filter (is_low_bit few b) (range_with_len 0 4096))

-- a count in which the words before word j (64 bits each) are taken from c, and the words from j on from b
abbrev pub IsCountedTo : ℕ → List ℕ → List ℕ → ℕ → ℕ → Type 0
IsCountedTo few b c j count =
    count + length (filter (is_low_bit few b) (range_with_len 0 (64 * j))) ≡ low_bits_set few b + length (filter (is_low_bit few c) (range_with_len 0 (64 * j)))

-- the LBN of block k of the storage bitmap, without the storage control block
abbrev pub bitmap_lbn : VolumeLayout → ℕ → ℕ
bitmap_lbn L k = slice_index L.bitmap (1 + k)

-- the LBN of block k of the index bitmap
abbrev pub index_lbn : Home → ℕ → ℕ
index_lbn h k = h.index_bitmap_lbn + k

-- if a list of counts has a 0 for block k, the count of block k is 0
abbrev pub ShowsNone : List ℕ → (ℕ → ℕ) → Type 0
ShowsNone counts count = (k : ℕ) → slice_get counts k ≡ Some 0 → count k ≡ 0
