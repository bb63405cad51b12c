-- The effect of a repair on a volume that a mount refuses: the blocks by which it is read are unchanged, and so are its layout, headers, chains and
-- files.
use Rattle.std.specs.Prelude.{◌≡◌, ◌↔◌, ◌⊎◌, ℕ, ◌+◌, ◌<◌, ◌≤◌, List, length}
use Rattle.std.specs.List.{Contains}
use Rattle.ods_base.specs.Image.{block_at}
use Rattle.ods_header.specs.Home.{IsHomeAt, IsHomePlace}
use Rattle.ods_space.specs.Layout.{VolumeLayout, header_at, is_in_use}
use Rattle.ods_space.specs.Chain.{IsChain}
use Rattle.ods_space.specs.Files.{HasBlocks, Holds, IsFile, IsLayoutOf}

-- A block that the layout locates without a file: at a location of a home block, or of the index bitmap and headers 1 to 16, which are consecutive.
abbrev pub IsFixedPlace : VolumeLayout → ℕ → Type 0
IsFixedPlace L b = IsHomePlace b ⊎ ((L.home.index_bitmap_lbn ≤ b) × (b < L.home.index_bitmap_lbn + L.home.index_bitmap_size + 16))

-- A block by which the volume is read: a fixed block, or a block of INDEXF.SYS.
abbrev pub IsOwn : VolumeLayout → ℕ → Type 0
IsOwn L b = IsFixedPlace L b ⊎ Contains L.index b

-- J has as many blocks as I, and the same blocks by which the volume is read
pub record KeepsOwn (I J : List (List ℕ)) (L : VolumeLayout) : Type 0 where
  pub long : length J ≡ length I
  pub own : (b : ℕ) → IsOwn L b → block_at J b ≡ block_at I b

-- J is read in the same way as I: by the same layout, with the same home block, headers and index bits, and each file has its chain and its blocks.
pub record IsReadAs (I J : List (List ℕ)) (L : VolumeLayout) : Type 0 where
  pub long : length J ≡ length I
  pub layout : IsLayoutOf J L
  pub homes : (lbn : ℕ) → IsHomeAt I lbn ↔ IsHomeAt J lbn
  pub headers : (n : ℕ) → header_at J L n ≡ header_at I L n
  pub in_use : (n : ℕ) → is_in_use J L.home n ≡ is_in_use I L.home n
  pub files : (n : ℕ) → IsFile I L n ↔ IsFile J L n
  pub chains : (n : ℕ) (others blocks : List ℕ) → IsChain I L n others blocks ↔ IsChain J L n others blocks
  pub has : (n : ℕ) (blocks : List ℕ) → HasBlocks I L n blocks ↔ HasBlocks J L n blocks
  pub holds : (n v b : ℕ) → Holds I L n v b ↔ Holds J L n v b
