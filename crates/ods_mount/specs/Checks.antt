-- What each check of the mount establishes.
use Rattle.std.specs.Prelude.{◌≡◌, ◌≢◌, ℕ, ◌+◌, ◌<◌, ◌≤◌, ◌⊎◌, false, IsTrue, List, ◌∷◌, length, slice_get, Some, ◌==◌, if◌then◌else◌}
use Rattle.ods_header.specs.Header.{IsHeader, IsFormat1}
use Rattle.ods_header.specs.Home.{IsHomeAt, IsHomePlace}
use Rattle.ods_space.specs.Layout.{VolumeLayout, header_at, is_in_use}
use Rattle.ods_space.specs.Chain.{IsChain}
use Rattle.ods_space.specs.Files.{IsFile, HasBlocks, Holds, IsLayoutOf}
use Rattle.ods_space.specs.Free.{is_free_block}
use Rattle.ods_directory.specs.Names.{IsDirectory}
use Rattle.ods_mount.specs.declared.fault.MountFault.{MountFault}
use Rattle.ods_mount.specs.declared.fault.MountFault.TheVariants.{BadIndex, BadStorageMap, BadChain, OutsideVolume, NoMemory}
use Rattle.ods_space.specs.declared.fault.ChainFault.TheVariants as chain
use Rattle.ods_space.specs.declared.fault.LayoutFault.{LayoutFault}
use Rattle.ods_space.specs.declared.fault.LayoutFault.TheVariants as layout
use Rattle.ods_space.specs.declared.fault.LayoutFault.TheVariants.{NoFile, Chain}
use Rattle.ods_mount.specs.Tables.{IsNoted, IsTable}
use Rattle.ods_mount.specs.Faults.{IsTrueOf, IsDirectoryFile, contents_of, mark_at}

-- The fault of an image without a layout. If file 1 or 2 does not exist, the fault is BadIndex or BadStorageMap.
abbrev pub mount_fault_of : LayoutFault → MountFault
mount_fault_of (NoFile n) = if n == 1 then BadIndex else BadStorageMap
mount_fault_of (Chain n chain.BadChain) = BadChain n
mount_fault_of (Chain n (chain.OutsideVolume lbn)) = OutsideVolume n lbn
mount_fault_of (Chain n chain.NoMemory) = NoMemory
mount_fault_of layout.NoMemory = NoMemory

-- the fault holds for the image with this layout, or it is out of memory
abbrev pub IsFault : List (List ℕ) → VolumeLayout → MountFault → Type 0
IsFault I L fault = fault ≢ NoMemory → IsTrueOf I L fault

-- INDEXF.SYS maps the index bitmap and headers 1 to 16 from VBN 3 on, and the home block, at this LBN, as VBN 1 or 2.
pub record IsWellIndexed (L : VolumeLayout) (home : ℕ) : Type 0 where
  pub size : L.home.index_bitmap_size + 18 ≤ length L.index
  pub place : (i : ℕ) → i < L.home.index_bitmap_size + 16 → slice_get L.index (2 + i) ≡ Some (L.home.index_bitmap_lbn + i)
  pub home_block : (slice_get L.index 0 ≡ Some home) ⊎ (slice_get L.index 1 ≡ Some home)

-- block i, from 0, of the index bitmap and headers 1 to 16 is not the block of INDEXF.SYS at VBN i + 3
abbrev pub IsElsewhere : VolumeLayout → ℕ → Type 0
IsElsewhere L i = (i < L.home.index_bitmap_size + 16) × (slice_get L.index (2 + i) ≢ Some (L.home.index_bitmap_lbn + i))

-- INDEXF.SYS maps too little, or not the index bitmap and headers 1 to 16 from VBN 3 on, or not the home block, at this LBN, as VBN 1 or 2
abbrev pub IsBadlyIndexed : VolumeLayout → ℕ → Type 0
IsBadlyIndexed L home =
    (length L.index < L.home.index_bitmap_size + 18)
    ⊎ ((i : ℕ) × IsElsewhere L i)
    ⊎ ((slice_get L.index 0 ≢ Some home) × (slice_get L.index 1 ≢ Some home))

-- no LBN below this one where a home block may be is free
abbrev pub NoPlaceIsFree : List (List ℕ) → VolumeLayout → ℕ → Type 0
NoPlaceIsFree I L home = (k : ℕ) → IsHomePlace k → k < home → is_free_block I L k ≡ false

-- each header in use that is otherwise valid has pointers of format 1
abbrev pub AreFormat1 : List (List ℕ) → VolumeLayout → Type 0
AreFormat1 I L = (n : ℕ) → IsTrue (is_in_use I L.home n) → IsHeader (header_at I L n) n → IsFormat1 (header_at I L n)

-- No request changes block i, from 0, of file n: it belongs to file 3 or 5, or is the first or second block of file 1.
abbrev pub IsFixed : ℕ → ℕ → Type 0
IsFixed n i = (n ≡ 3) ⊎ (n ≡ 5) ⊎ ((n ≡ 1) × (i < 2))

-- none of these blocks is free
abbrev pub NoneIsFree : List (List ℕ) → VolumeLayout → List ℕ → Type 0
NoneIsFree I L blocks = (i b : ℕ) → slice_get blocks i ≡ Some b → is_free_block I L b ≡ false

-- a home block may be at none of these blocks of file n below this LBN, except at blocks that no request changes
abbrev pub NoneIsPlace : ℕ → ℕ → List ℕ → Type 0
NoneIsPlace home n blocks = (i b : ℕ) → slice_get blocks i ≡ Some b → IsHomePlace b → b < home → IsFixed n i

-- file n holds these blocks consecutively, the first as its block `first`, counted from 0
abbrev pub HoldsFrom : List (List ℕ) → VolumeLayout → ℕ → ℕ → List ℕ → Type 0
HoldsFrom I L n first xs = (j b : ℕ) → slice_get xs j ≡ Some b → Holds I L n (first + j + 1) b

-- The first i blocks of file n are checked, and noted in the set in addition to the blocks of earlier files. None is free, and none is a writable LBN
-- below the home block where a home block may be.
pub record IsPassed (I : List (List ℕ)) (L : VolumeLayout) (home n i : ℕ) (set : List ℕ) : Type 0 where
  pub blocks : List ℕ
  pub has : HasBlocks I L n blocks
  pub before : List ℕ
  pub table : IsTable (Holds I L) n before
  pub noted : IsNoted before set blocks i
  pub not_free : (j b : ℕ) → j < i → slice_get blocks j ≡ Some b → is_free_block I L b ≡ false
  pub no_place : (j b : ℕ) → j < i → slice_get blocks j ≡ Some b → IsHomePlace b → b < home → IsFixed n j

-- file n has a whole chain with these blocks, and passes each check of one file
pub record IsCheckedFile (I : List (List ℕ)) (L : VolumeLayout) (home n : ℕ) : Type 0 where
  pub blocks : List ℕ
  pub has : HasBlocks I L n blocks
  pub not_free : NoneIsFree I L blocks
  pub no_place : NoneIsPlace home n blocks
  pub directory : IsDirectoryFile I L n → IsDirectory (contents_of I blocks) (mark_at I L n blocks)

-- File n has header x as segment `segment` of its chain, counted from 0.
pub record HasHeader (I : List (List ℕ)) (L : VolumeLayout) (n segment x : ℕ) : Type 0 where
  pub file : IsFile I L n
  pub others : List ℕ
  pub blocks : List ℕ
  pub chain : IsChain I L n others blocks
  pub named : slice_get (n ∷ others) segment ≡ Some x

-- File n holds this block, and an earlier file holds it, or n itself as another of its blocks.
pub record IsHeldTwice (I : List (List ℕ)) (L : VolumeLayout) (n lbn : ℕ) : Type 0 where
  pub vbn : ℕ
  pub own : Holds I L n vbn lbn
  pub owner : ℕ
  pub other : ℕ
  pub held : Holds I L owner other lbn
  pub before : (owner < n) ⊎ ((owner ≡ n) × (vbn ≢ other))

-- the result of all checks together
pub record IsChecked (I : List (List ℕ)) (L : VolumeLayout) : Type 0 where
  pub home : ℕ
  pub home_at : IsHomeAt I home
  pub layout : IsLayoutOf I L
  pub index : IsWellIndexed L home
  pub no_place : NoPlaceIsFree I L home
  pub bitmap_size : 2 ≤ length L.bitmap
  pub master : IsFile I L 4
  pub formats : AreFormat1 I L
  pub files : (n : ℕ) → IsFile I L n → IsCheckedFile I L home n
  pub apart : (m n v w x : ℕ) → HasHeader I L m v x → HasHeader I L n w x → m ≡ n
  pub once : (m n v w b : ℕ) → Holds I L m v b → Holds I L n w b → (m ≡ n) × (v ≡ w)
