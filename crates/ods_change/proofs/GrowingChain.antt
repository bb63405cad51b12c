-- The chain of a file that is to grow, computed along its headers.
use Rattle.std.proofs.Common.{◌≡◌, ℕ, refl, List, ◌∷◌, drop}
use Rattle.ods_base.specs.Image.{IsImage}
use Rattle.ods_space.specs.Layout.{VolumeLayout}
use Rattle.ods_space.specs.Files.{HasBlocks, IsLayoutOf}
use Rattle.ods_space.specs.Chain.{IsChain, headers_of, named_by, numbers_of}
use Rattle.ods_state.specs.Wants.{HasHeaders}
use Rattle.ods_change.proofs.ReadyToGrow.{walked_as}

-- the headers behind the first, and the blocks
pub headers_behind : List (List ℕ) → VolumeLayout → ℕ → List ℕ
headers_behind I L n = drop 1 (numbers_of (headers_of I L n))

pub blocks_before : List (List ℕ) → VolumeLayout → ℕ → List ℕ
blocks_before I L n = named_by (headers_of I L n)

-- a file with blocks has its first header, and others
pub has_headers : {I : List (List ℕ)} {L : VolumeLayout} {n : ℕ} {blocks : List ℕ} (h : HasBlocks I L n blocks) → HasHeaders I L n (n ∷ h.others) blocks
has_headers h = (h.others, refl, h.whole)

-- they are those of the chain
pub chain_before : (I : List (List ℕ)) (L : VolumeLayout) (n : ℕ) (others old : List ℕ) → IsImage I → IsLayoutOf I L → IsChain I L n others old
    → (headers_behind I L n ≡ others) × (blocks_before I L n ≡ old)
unfolding headers_of headers_behind blocks_before
chain_before I L n others old image layout chain = walked_as I L n others old image layout chain
