-- An image as contracts see it: the list of its blocks, numbered from 0.
use Rattle.std.specs.Prelude.{◌≡◌, ◌≢◌, ℕ, ◌+◌, ◌%◌, ◌^◌, ◌<◌, ◌≤◌, List, [], ◌++◌, length, take, slice_index_or, Option}
use Rattle.std.specs.List.{All, concat}
use Rattle.std.specs.Io.KnownBytes.{Appends, Consumes, IsAtEnd}
use Rattle.ods_base.specs.Block.{IsBlock}
use Rattle.ods_base.specs.declared.faults.ImageError.{ImageError}
use Rattle.ods_base.specs.declared.faults.ImageError.TheVariants.{TooBig, NotWholeBlocks, ReadFailed, NoMemory}

-- the invariant of each image of the program: at most 1,048,576 blocks
pub record IsImage (I : List (List ℕ)) : Type 0 where
  pub size : length I ≤ 2 ^ 20
  pub blocks : All IsBlock I

-- the block at an LBN. One that the image lacks has no bytes, so each of its bytes, words and bits reads as 0.
abbrev pub block_at : List (List ℕ) → ℕ → List ℕ
block_at I lbn = slice_index_or I lbn []

-- the bytes of all blocks in order
abbrev pub image_bytes : List (List ℕ) → List ℕ
image_bytes I = concat I

-- Why these bytes are not an image. TooBig takes precedence over NotWholeBlocks.
abbrev pub IsNoImage : List ℕ → ImageError → Type 0
IsNoImage bytes TooBig = 2 ^ 29 < length bytes
IsNoImage bytes NotWholeBlocks = (length bytes ≤ 2 ^ 29) × (length bytes % 512 ≢ 0)
IsNoImage bytes ReadFailed = ⊥
IsNoImage bytes NoMemory = Unit {0}

-- Why no image was read from a reader that gave these bytes and has `rest` left. TooBig needs one byte more than the largest image has. ReadFailed
-- can come at any time within the limit. NotWholeBlocks comes only at the end of the reader.
abbrev pub IsNoReading : List ℕ → Option (List ℕ) → ImageError → Type 0
IsNoReading bytes rest TooBig = length bytes ≡ 2 ^ 29 + 1
IsNoReading bytes rest NotWholeBlocks = (length bytes ≤ 2 ^ 29) × (length bytes % 512 ≢ 0) × IsAtEnd rest
IsNoReading bytes rest ReadFailed = length bytes ≤ 2 ^ 29
IsNoReading bytes rest NoMemory = length bytes ≤ 2 ^ 29 + 1

-- One read stores this many bytes after the first `held` bytes of a piece. It stores 0 bytes only at the end of the reader.
pub record ReadsBehind (old new : Option (List ℕ)) (held count : ℕ) (before after : List ℕ) : Type 0 where
  pub got : List ℕ
  pub size : length got ≡ count
  pub consumed : Consumes old new got
  pub behind : take (held + count) after ≡ take held before ++ got
  pub at_end : count ≡ 0 → IsAtEnd new

-- A writer with the contents `old`, if known, has the contents `new` after it took exactly the first `count` of these bytes.
abbrev pub TookBytes : Option (List ℕ) → Option (List ℕ) → List ℕ → ℕ → Type 0
TookBytes old new bytes count = (count ≤ length bytes) × Appends old new (take count bytes)
