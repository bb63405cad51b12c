-- The bytes of a host file that are the volume, and the bytes after it.
use Rattle.std.specs.Prelude.{◌≡◌, ◌≢◌, ℕ, ◌+◌, ◌-◌, ◌*◌, ◌/◌, ◌%◌, ◌^◌, ◌<◌, ◌≤◌, ◌⊎◌, min, List, ◌++◌, length, take, drop, replicate, Option, Some, None}
use Rattle.std.specs.Io.KnownBytes.{IsAtEnd}
use Rattle.ods_base.specs.Image.{IsImage, image_bytes}
use Rattle.ods_base.specs.declared.faults.ImageError.{ImageError}
use Rattle.ods_base.specs.declared.faults.ImageError.TheVariants.{TooBig, NotWholeBlocks, ReadFailed, NoMemory}
use Rattle.ods_container.specs.Size.{SaysSize, SaysNone}

-- the first S blocks of the bytes, padded with zeros
abbrev pub volume_bytes : List ℕ → ℕ → List ℕ
volume_bytes bytes S = take (512 * S) bytes ++ replicate (512 * S - length bytes) 0

-- the bytes after S blocks
abbrev pub bytes_behind : List ℕ → ℕ → List ℕ
bytes_behind bytes S = drop (512 * S) bytes

-- the number of blocks that these bytes begin, but at most that of the largest image
abbrev pub blocks_begun : List ℕ → ℕ
blocks_begun bytes = min ((length bytes + 511) / 512) (2 ^ 20)

-- I is the image in which the size is searched: each block that the bytes begin, the last one padded with zeros
abbrev pub IsSeen : List ℕ → List (List ℕ) → Type 0
IsSeen bytes I = IsImage I × (image_bytes I ≡ volume_bytes bytes (blocks_begun bytes))

-- The size of the volume in these bytes: the given one, or the one that the volume states, or the size of the bytes, which must then be whole blocks.
abbrev pub IsSize : List ℕ → Option ℕ → ℕ → Type 0
IsSize bytes (Some count) S = S ≡ count
IsSize bytes None S =
    ((I : List (List ℕ)) × IsSeen bytes I × SaysSize I S)
    ⊎ ((I : List (List ℕ)) × IsSeen bytes I × SaysNone I × (length bytes ≡ 512 * S))

-- The image is the first S blocks of these bytes, padded with zeros. `rest` is the bytes after it, and n is the number of bytes.
pub record HoldsVolume (bytes : List ℕ) (S : ℕ) (I : List (List ℕ)) (rest : List ℕ) (n : ℕ) : Type 0 where
  pub image : IsImage I
  pub count : length I ≡ S
  pub volume : image_bytes I ≡ volume_bytes bytes S
  pub behind : rest ≡ bytes_behind bytes S
  pub size : n ≡ length bytes

-- the image is the volume in these bytes
abbrev pub IsContained : List ℕ → Option ℕ → List (List ℕ) → List ℕ → ℕ → Type 0
IsContained bytes given I rest n = IsSize bytes given (length I) × HoldsVolume bytes (length I) I rest n

-- why `size` bytes are not the blocks of an image
abbrev pub IsUnwhole : ℕ → ImageError → Type 0
IsUnwhole size TooBig = 2 ^ 29 < size
IsUnwhole size NotWholeBlocks = size % 512 ≢ 0
IsUnwhole size ReadFailed = ⊥
IsUnwhole size NoMemory = ⊥

-- Why there is no volume in these bytes: a size that no image has is given. Or no size is given or stated, and the bytes are more than the largest
-- image has, or not whole blocks.
abbrev pub IsNotContained : List ℕ → Option ℕ → ImageError → Type 0
IsNotContained bytes given TooBig =
    ((count : ℕ) × (given ≡ Some count) × (2 ^ 20 < count))
    ⊎ ((given ≡ None) × (2 ^ 29 < length bytes) × (I : List (List ℕ)) × IsSeen bytes I × SaysNone I)
IsNotContained bytes given NotWholeBlocks = (given ≡ None) × (length bytes % 512 ≢ 0) × (I : List (List ℕ)) × IsSeen bytes I × SaysNone I
IsNotContained bytes given ReadFailed = ⊥
IsNotContained bytes given NoMemory = Unit {0}

-- The most bytes that are read: the bytes of the largest image, and 65,536 after it.
abbrev pub most_bytes : ℕ
most_bytes = 2 ^ 29 + 2 ^ 16

-- the bytes are all that a reader had, with `rest` left, and not too many
pub record AreAll (bytes : List ℕ) (rest : Option (List ℕ)) (text : List ℕ) : Type 0 where
  pub all : text ≡ bytes
  pub few : length bytes ≤ most_bytes
  pub at_end : IsAtEnd rest

-- why not all bytes of a reader were read
abbrev pub AreNotRead : List ℕ → ImageError → Type 0
AreNotRead bytes TooBig = most_bytes < length bytes
AreNotRead bytes NotWholeBlocks = ⊥
AreNotRead bytes ReadFailed = length bytes ≤ most_bytes
AreNotRead bytes NoMemory = Unit {0}

-- the volume in the bytes that were read, with nothing left
abbrev pub IsReadContained : List ℕ → Option (List ℕ) → Option ℕ → List (List ℕ) → List ℕ → ℕ → Type 0
IsReadContained bytes left given I rest n = IsContained bytes given I rest n × IsAtEnd left

-- why no volume was read: the reader failed or had too much, or there is no volume in its bytes
abbrev pub IsNotRead : List ℕ → Option ℕ → ImageError → Type 0
IsNotRead bytes given fault = AreNotRead bytes fault ⊎ IsNotContained bytes given fault
