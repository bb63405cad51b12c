-- Blocks that are set to zeros, and blocks that are appended to a chain whose last header has room for their pointers.
use Rattle.std.specs.Prelude.{◌≡◌, ℕ, ◌<◌, List, [], ◌∷◌, length}
use Rattle.std.specs.List.{All, Contains}
use Rattle.ods_base.specs.Block.{zeros}
use Rattle.ods_base.specs.Image.{block_at}
use Rattle.ods_header.specs.Pointing.{IsWithRuns}
use Rattle.ods_space.specs.Layout.{VolumeLayout, header_at}
use Rattle.ods_alloc.specs.Extend.{IsHeaderPlace, IsStorageBitmap, AllocatesBits, cut}

-- J is I with zeros at these of its blocks, and no other block changes
pub record IsZeroed (I : List (List ℕ)) (blocks : List ℕ) (J : List (List ℕ)) : Type 0 where
  pub long : length J ≡ length I
  pub zero : (x : ℕ) → Contains blocks x → x < length I → block_at J x ≡ zeros
  pub elsewhere : (x : ℕ) → ¬ Contains blocks x → block_at J x ≡ block_at I x

-- K is I with these blocks appended to a file whose last header is header `end`: they are zeros and marked as used, that header has pointers to them
-- after its own, and no other block changes
pub record AppendsBlocks (I : List (List ℕ)) (L : VolumeLayout) (end : ℕ) (blocks : List ℕ) (K : List (List ℕ)) : Type 0 where
  pub size : length K ≡ length I
  pub zeroed : All (λ lbn. block_at K lbn ≡ zeros) blocks
  pub last : IsWithRuns (header_at I L end) (cut blocks) (header_at K L end)
  pub bits : AllocatesBits I L blocks [] K
  pub others : (lbn : ℕ) → ¬ IsStorageBitmap L lbn → ¬ IsHeaderPlace L (end ∷ []) lbn → ¬ Contains blocks lbn → block_at K lbn ≡ block_at I lbn
