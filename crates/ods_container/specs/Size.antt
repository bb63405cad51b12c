-- The size of a volume as its storage control block states it, and when that size is trusted.
use Rattle.std.specs.Prelude.{◌≡◌, ◌≢◌, ℕ, ◌+◌, ◌*◌, ◌/◌, ◌%◌, ◌^◌, ◌≤◌, ◌⊎◌, nat_le, if◌then◌else◌, IsTrue, List, Some, length, slice_get, slice_index}
use Rattle.ods_base.specs.Block.{byte, word}
use Rattle.ods_base.specs.Image.{block_at}
use Rattle.ods_header.specs.declared.header.Run.{Run}
use Rattle.ods_header.specs.Header.{IsValidHeader, runs_of}
use Rattle.ods_space.specs.Files.{IsLayoutOf}
use Rattle.ods_space.specs.Layout.{VolumeLayout, header_at, is_in_use, last_number}
use Rattle.ods_mount.specs.declared.fault.MountFault.{MountFault}
use Rattle.ods_mount.specs.declared.fault.MountFault.TheVariants.{NoMemory}
use Rattle.ods_mount.specs.Faults.{FaultIsTrue}

-- the number of bitmap blocks of a volume of S blocks: one for each 4,096 of them
abbrev pub map_blocks : ℕ → ℕ
map_blocks S = (S + 4095) / 4096

-- The offset of the size in a storage control block, in words: after two words for each block of the bitmap, or for none if they are more than 126.
abbrev pub size_word : ℕ → ℕ
size_word m = if nat_le m 126 then 2 + 2 * m else 2

-- the size in the storage control block b of a bitmap of m blocks: two words, the high one first
abbrev pub size_in : List ℕ → ℕ → ℕ
size_in b m = 65536 * word b (size_word m) + word b (size_word m + 1)

-- the storage control block: VBN 1 of BITMAP.SYS
abbrev pub control_block : List (List ℕ) → VolumeLayout → List ℕ
control_block I L = block_at I (slice_index L.bitmap 0)

-- The storage control block states S. BITMAP.SYS has exactly the blocks for it, and byte 3 is the low byte of their number.
pub record IsSaid (I : List (List ℕ)) (L : VolumeLayout) (S : ℕ) : Type 0 where
  pub some : 1 ≤ S
  pub most : S ≤ 2 ^ 20
  pub blocks : length L.bitmap ≡ 1 + map_blocks S
  pub count : byte (control_block I L) 3 ≡ map_blocks S % 256
  pub size : size_in (control_block I L) (map_blocks S) ≡ S

-- the blocks of each pointer of header b end at S or before
abbrev pub EndBelow : List ℕ → ℕ → Type 0
EndBelow b S = (k : ℕ) (r : Run) → slice_get (runs_of b) k ≡ Some r → r.lbn + r.count ≤ S

-- Header n, if it is valid and in use, maps only blocks below S. Header 3, of BADBLK.SYS, is skipped: its blocks may be past the volume.
abbrev pub IsMappedBelow : List (List ℕ) → VolumeLayout → ℕ → ℕ → Type 0
IsMappedBelow I L S n = n ≢ 3 → IsTrue (is_in_use I L.home n) → IsValidHeader (header_at I L n) n → EndBelow (header_at I L n) S

-- this holds for each header
abbrev pub AreMappedBelow : List (List ℕ) → VolumeLayout → ℕ → Type 0
AreMappedBelow I L S = (n : ℕ) → n ≤ last_number L → IsMappedBelow I L S n

-- S is stated, and no header contradicts it
abbrev pub IsBelieved : List (List ℕ) → VolumeLayout → ℕ → Type 0
IsBelieved I L S = IsSaid I L S × AreMappedBelow I L S

-- the volume of this image states S blocks, and the size is trusted
abbrev pub SaysSize : List (List ℕ) → ℕ → Type 0
SaysSize I S = (L : VolumeLayout) × IsLayoutOf I L × IsBelieved I L S

-- it states no trusted size: a fault prevents the reading of its layout, or no size is trusted
abbrev pub SaysNone : List (List ℕ) → Type 0
SaysNone I =
    ((fault : MountFault) × (fault ≢ NoMemory) × FaultIsTrue I fault)
    ⊎ ((L : VolumeLayout) × IsLayoutOf I L × ((S : ℕ) → ¬ IsBelieved I L S))
