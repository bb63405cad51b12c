-- Bits of bitmaps that are set or cleared, and headers that are deleted.
use Rattle.std.specs.Prelude.{◌≡◌, ◌≢◌, ℕ, ◌+◌, ◌-◌, ◌*◌, ◌/◌, ◌%◌, ◌<◌, ◌≤◌, Bool, if◌then◌else◌, List, length, slice_index, Option, Some, None, IsTrue}
use Rattle.std.specs.List.{All, Contains}
use Rattle.ods_base.specs.Block.{has_bit}
use Rattle.ods_base.specs.Bits.{HasBit}
use Rattle.ods_base.specs.Image.{block_at}
use Rattle.ods_space.specs.Layout.{VolumeLayout, place_of}
use Rattle.ods_space.specs.Free.{is_covered}
use Rattle.ods_header.specs.Writing.{deleted}
use Rattle.ods_alloc.specs.Extend.{IsWellPlaced, IsIndexBitmap, IsStorageBitmap, IsHeaderPlace, is_one_of}

-- the LBNs of the layout are inside an image of this size, and separate
pub record HasPlaces (size : ℕ) (L : VolumeLayout) : Type 0 where
  pub index : All (λ lbn. lbn < size) L.index
  pub bitmap : All (λ lbn. lbn < size) L.bitmap
  pub places : IsWellPlaced L

-- J is I with bit i of the block at this LBN set or cleared
pub record PutsBit (I : List (List ℕ)) (lbn i : ℕ) (value : Bool) (J : List (List ℕ)) : Type 0 where
  pub size : length J ≡ length I
  pub bit : HasBit (block_at I lbn) i value (block_at J lbn)
  pub others : (k : ℕ) → k ≢ lbn → block_at J k ≡ block_at I k

-- J is I with this bit of a bitmap, given by block and bit, set or cleared, or I if there is no bit
abbrev pub Puts : List (List ℕ) → Option (ℕ × ℕ) → Bool → List (List ℕ) → Type 0
Puts I None value J = J ≡ I
Puts I (Some bit) value J = PutsBit I bit.0 bit.1 value J

-- the bit that a bitmap has of a block or number, if it covers it
abbrev pub IsBitOf : Type 0 → ℕ × ℕ → Option (ℕ × ℕ) → Type 0
IsBitOf Covered bit None = ¬ Covered
IsBitOf Covered bit (Some found) = Covered × (found ≡ bit)

-- the bit of a block in the storage bitmap: the LBN of the bitmap's block, and the index of the bit there
abbrev pub block_bit : VolumeLayout → ℕ → ℕ × ℕ
block_bit L lbn = (slice_index L.bitmap (1 + lbn / 4096), lbn % 4096)

-- the bit of a file number in the index bitmap, whose first bit belongs to number 1
abbrev pub number_bit : VolumeLayout → ℕ → ℕ × ℕ
number_bit L n = (L.home.index_bitmap_lbn + (n - 1) / 4096, (n - 1) % 4096)

-- the index bitmap covers this number
abbrev pub IsIndexed : VolumeLayout → ℕ → Type 0
IsIndexed L n = (1 ≤ n) × (n ≤ 4096 * L.home.index_bitmap_size)

-- J is I with the bits of these set or cleared, as far as the bitmap covers them; the bitmap is in these blocks
pub record Marks (Covers Stands : ℕ → Type 0) (bit : ℕ → ℕ × ℕ) (I : List (List ℕ)) (these : List ℕ) (value : Bool) (J : List (List ℕ)) : Type 0 where
  pub size : length J ≡ length I
  pub bits : (x : ℕ) → Covers x → has_bit (block_at J (bit x).0) (bit x).1 ≡ (if is_one_of these x then value else has_bit (block_at I (bit x).0) (bit x).1)
  pub others : (lbn : ℕ) → ¬ Stands lbn → block_at J lbn ≡ block_at I lbn

-- these blocks are marked as free, or as used, as far as the storage bitmap covers them
abbrev pub MarksBlocks : List (List ℕ) → VolumeLayout → List ℕ → Bool → List (List ℕ) → Type 0
MarksBlocks I L blocks free J = Marks (λ x. IsTrue (is_covered L x)) (IsStorageBitmap L) (block_bit L) I blocks free J

-- these numbers are marked as used, or as free, as far as the index bitmap covers them
abbrev pub MarksNumbers : List (List ℕ) → VolumeLayout → List ℕ → Bool → List (List ℕ) → Type 0
MarksNumbers I L numbers used J = Marks (IsIndexed L) (IsIndexBitmap L) (number_bit L) I numbers used J

-- J is I with these headers deleted, as far as they have an LBN
pub record Deletes (I : List (List ℕ)) (L : VolumeLayout) (numbers : List ℕ) (J : List (List ℕ)) : Type 0 where
  pub size : length J ≡ length I
  pub headers : (n lbn : ℕ) → Contains numbers n → place_of L n ≡ Some lbn → block_at J lbn ≡ deleted (block_at I lbn)
  pub others : (lbn : ℕ) → ¬ IsHeaderPlace L numbers lbn → block_at J lbn ≡ block_at I lbn
