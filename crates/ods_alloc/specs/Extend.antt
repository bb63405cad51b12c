-- How chains grow and shrink: runs, the headers that they need, and the changes in the image.
use Rattle.std.specs.Prelude.{◌≡◌, ◌≢◌, ℕ, ◌+◌, ◌-◌, ◌*◌, ◌/◌, ◌%◌, ◌^◌, ◌<◌, ◌≤◌, ◌⊎◌, Bool, not, ◌&&◌, ◌||◌, ◌==◌, nat_lt, if◌then◌else◌, List, [], ◌∷◌, ◌++◌, length, drop, slice_get, slice_set, Some, IsTrue}
use Rattle.std.specs.List.{All, Contains, flat_map, list_any}
use Rattle.std.specs.List.Sorted.{IsStrictlyIncreasing}
use Rattle.std.specs.Int.{bit_at}
use Rattle.ods_base.specs.Block.{byte}
use Rattle.ods_base.specs.Image.{block_at}
use Rattle.ods_header.specs.declared.home.Home.{Home}
use Rattle.ods_header.specs.declared.header.Run.{Run}
use Rattle.ods_header.specs.Extension.{IsExtensionOf}
use Rattle.ods_header.specs.Pointing.{KeepsFields, KeepsRest, BeginsPointers}
use Rattle.ods_header.specs.Writing.{deleted}
use Rattle.ods_header.specs.Header.{next_number_of, next_sequence_of, next_volume_of, runs_of, room_of, sequence_of}
use Rattle.ods_space.specs.Layout.{VolumeLayout, header_at, place_of, is_in_use}
use Rattle.ods_space.specs.Chain.{IsChain}
use Rattle.ods_space.specs.Draft.{Changes, applied}
use Rattle.ods_space.specs.declared.disk.Disk.{Disk}
use Rattle.ods_space.specs.Free.{is_covered, storage_bit, is_free_number}

-- Ascending blocks as runs from the lowest upward. A run ends if the next block is not contiguous, or if the run has 256 blocks.
abbrev pub cut_from : Run → List ℕ → List Run
cut_from run [] = run ∷ []
cut_from run (x ∷ xs) =
    if (x == run.lbn + run.count) && nat_lt run.count 256 then cut_from (record { lbn = run.lbn; count = run.count + 1 }) xs
    else run ∷ cut_from (record { lbn = x; count = 1 }) xs

-- these blocks as runs
unfoldable pub cut : List ℕ → List Run
cut [] = []
cut (x ∷ xs) = cut_from (record { lbn = x; count = 1 }) xs

-- the number of extension headers that this number of pointers needs if `room` of them still fit; each takes 102
abbrev pub headers_needed : ℕ → ℕ → ℕ
headers_needed room runs = (runs - room + 101) / 102

-- the last header of a chain
abbrev pub last_of : ℕ → List ℕ → ℕ
last_of n [] = n
last_of n (m ∷ ms) = last_of m ms

-- the pointers of a chain with these headers
abbrev pub chain_runs : List (List ℕ) → VolumeLayout → List ℕ → List Run
chain_runs I L numbers = flat_map (λ n. runs_of (header_at I L n)) numbers

-- the block with bit i set
abbrev pub with_bit : List ℕ → ℕ → List ℕ
with_bit b i = slice_set b (i / 8) (byte b (i / 8) + (1 - bit_at (byte b (i / 8)) (i % 8)) * 2 ^ (i % 8))

-- the image with the index bit of n set
abbrev pub with_in_use : List (List ℕ) → Home → ℕ → List (List ℕ)
with_in_use I h n = slice_set I (h.index_bitmap_lbn + (n - 1) / 4096) (with_bit (block_at I (h.index_bitmap_lbn + (n - 1) / 4096)) ((n - 1) % 4096))

-- x is one of these numbers
abbrev pub is_one_of : List ℕ → ℕ → Bool
is_one_of xs x = list_any (λ y. y == x) xs

-- The blocks of headers and bitmaps are separate. INDEXF.SYS maps the index bitmap and headers 1 to 16 from VBN 3 on, and no block of INDEXF.SYS or
-- BITMAP.SYS is mapped twice.
pub record IsWellPlaced (L : VolumeLayout) : Type 0 where
  pub index_place : (i : ℕ) → i < L.home.index_bitmap_size + 16 → slice_get L.index (2 + i) ≡ Some (L.home.index_bitmap_lbn + i)
  pub index_once : (i j b : ℕ) → slice_get L.index i ≡ Some b → slice_get L.index j ≡ Some b → i ≡ j
  pub bitmap_once : (i j b : ℕ) → slice_get L.bitmap i ≡ Some b → slice_get L.bitmap j ≡ Some b → i ≡ j
  pub apart : (i j b c : ℕ) → slice_get L.index i ≡ Some b → slice_get L.bitmap j ≡ Some c → b ≢ c

-- the LBN belongs to the index bitmap
abbrev pub IsIndexBitmap : VolumeLayout → ℕ → Type 0
IsIndexBitmap L lbn = (L.home.index_bitmap_lbn ≤ lbn) × (lbn < L.home.index_bitmap_lbn + L.home.index_bitmap_size)

-- the LBN belongs to the storage bitmap, from VBN 2 of BITMAP.SYS on
abbrev pub IsStorageBitmap : VolumeLayout → ℕ → Type 0
IsStorageBitmap L lbn = Contains (drop 1 L.bitmap) lbn

-- one of these headers is at the LBN
abbrev pub IsHeaderPlace : VolumeLayout → List ℕ → ℕ → Type 0
IsHeaderPlace L numbers lbn = (n : ℕ) × Contains numbers n × (place_of L n ≡ Some lbn)

-- the LBN belongs to the bitmaps, or has one of these headers
abbrev pub IsBookkeeping : VolumeLayout → List ℕ → ℕ → Type 0
IsBookkeeping L numbers lbn = IsIndexBitmap L lbn ⊎ IsStorageBitmap L lbn ⊎ IsHeaderPlace L numbers lbn

-- The bits of both bitmaps, as far as they cover the blocks and numbers: these blocks are allocated, and these numbers are in use.
pub record AllocatesBits (I : List (List ℕ)) (L : VolumeLayout) (blocks numbers : List ℕ) (J : List (List ℕ)) : Type 0 where
  pub storage : (lbn : ℕ) → IsTrue (is_covered L lbn) → storage_bit J L lbn ≡ (storage_bit I L lbn && not (is_one_of blocks lbn))
  pub index_bits : (n : ℕ) → is_in_use J L.home n ≡ (is_in_use I L.home n || is_one_of numbers n)

-- the bits after these blocks and numbers are given back
pub record GivesBits (I : List (List ℕ)) (L : VolumeLayout) (blocks numbers : List ℕ) (J : List (List ℕ)) : Type 0 where
  pub storage : (lbn : ℕ) → IsTrue (is_covered L lbn) → storage_bit J L lbn ≡ (storage_bit I L lbn || is_one_of blocks lbn)
  pub index_bits : (n : ℕ) → is_in_use J L.home n ≡ (is_in_use I L.home n && not (is_one_of numbers n))

-- no other block changes
pub record ChangesOnly (I : List (List ℕ)) (L : VolumeLayout) (numbers : List ℕ) (J : List (List ℕ)) : Type 0 where
  pub size : length J ≡ length I
  pub others : (lbn : ℕ) → ¬ IsBookkeeping L numbers lbn → block_at J lbn ≡ block_at I lbn

-- if the header has no next header, M.EFSQ is 0 too
abbrev pub EndsClean : List ℕ → Type 0
EndsClean b = next_number_of b ≡ 0 → next_sequence_of b ≡ 0

-- J is I in which the chain of n, formerly n and then `others` with the blocks `all`, is grown by these blocks and these extension headers.
pub record Extends (I : List (List ℕ)) (L : VolumeLayout) (n : ℕ) (others all blocks numbers : List ℕ) (J : List (List ℕ)) : Type 0 where
  pub chain : IsChain J L n (others ++ numbers) (all ++ blocks)
  -- the old pointers remain, and the runs of the new blocks follow
  pub runs : chain_runs J L (n ∷ others ++ numbers) ≡ chain_runs I L (n ∷ others) ++ cut blocks
  -- the old headers keep their fields, each with its own pointers first, and the new ones have one form
  pub stays : All (λ m. KeepsFields (header_at I L m) (header_at J L m)) (n ∷ others)
  pub begins : All (λ m. BeginsPointers (header_at I L m) (header_at J L m)) (n ∷ others)
  pub rest : All (λ m. KeepsRest (header_at I L m) (header_at J L m)) (n ∷ others)
  pub sizes : All (λ m. length (header_at J L m) ≡ length (header_at I L m)) (n ∷ others)
  pub made : All (λ m. IsExtensionOf (header_at J L n) (header_at J L m)) numbers
  pub clean : All (λ m. EndsClean (header_at J L m)) numbers
  -- the old last header and each new one except the last are full
  pub filled : (i m : ℕ) → i < length numbers → slice_get (last_of n others ∷ numbers) i ≡ Some m → room_of (header_at J L m) / 2 ≡ 0
  -- if no new header follows, the last header keeps the volume number of its next header
  pub last_volume : numbers ≡ [] → next_volume_of (header_at J L (last_of n others)) ≡ next_volume_of (header_at I L (last_of n others))
  pub sequences : All (λ m. sequence_of (header_at J L m) ≡ sequence_of (header_at I L m) + 1) numbers
  pub bits : AllocatesBits I L blocks (n ∷ numbers) J
  pub only : ChangesOnly I L (n ∷ others ++ numbers) J

-- n has the chain of these headers after its first, and of these blocks, once its index bit is set
abbrev pub HasChainInUse : List (List ℕ) → VolumeLayout → ℕ → List ℕ × List ℕ → Type 0
HasChainInUse I L n chain = IsChain (with_in_use I L.home n) L n chain.0 chain.1

-- the disk after the second draft is the disk after the first, with the chain of n grown by these blocks and these extension headers
abbrev pub ExtendsDrafted : Disk → Changes → ℕ → List ℕ × List ℕ → List ℕ → List ℕ → Changes → Type 0
ExtendsDrafted D before n chain blocks numbers after =
    Extends (applied D.image.now before) D.layout.now n chain.0 chain.1 blocks numbers (applied D.image.now after)

-- J is I with these blocks given back and these headers deleted.
pub record GivesBack (I : List (List ℕ)) (L : VolumeLayout) (blocks numbers : List ℕ) (J : List (List ℕ)) : Type 0 where
  pub headers : All (λ m. header_at J L m ≡ deleted (header_at I L m)) numbers
  pub bits : GivesBits I L blocks numbers J
  pub only : ChangesOnly I L numbers J

-- The conditions of extend_chain for its caller. The file is neither INDEXF.SYS nor BITMAP.SYS. The blocks ascend, and none holds headers or bitmaps.
-- The numbers are free, ascending, and not n. There are exactly as many as the runs need past the room of the last header.
pub record CanExtend (I : List (List ℕ)) (L : VolumeLayout) (n : ℕ) (others blocks numbers : List ℕ) : Type 0 where
  pub file : 3 ≤ n
  pub ascending : IsStrictlyIncreasing blocks
  pub inside : All (λ b. b < length I) blocks
  pub apart : (b : ℕ) → Contains blocks b → ¬ Contains L.index b × ¬ Contains L.bitmap b
  pub free : All (λ m. IsTrue (is_free_number I L m)) numbers
  pub rising : IsStrictlyIncreasing numbers
  pub new : ¬ Contains numbers n
  pub enough : length numbers ≡ headers_needed (room_of (header_at I L (last_of n others)) / 2) (length (cut blocks))
  pub segments : length others + length numbers < 256
