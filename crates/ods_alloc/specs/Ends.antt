-- The end of a chain of headers, and the conditions on the ends of a chain that grows.
use Rattle.std.specs.Prelude.{◌≡◌, ◌≢◌, ℕ, ◌<◌, List, ◌∷◌, length}
use Rattle.ods_header.specs.Header.{IsValidHeader, room_of}
use Rattle.ods_space.specs.Layout.{VolumeLayout, header_at}
use Rattle.ods_space.specs.Chain.{IsChain}
use Rattle.ods_space.specs.Files.{IsWhole}
use Rattle.ods_alloc.specs.declared.end.ChainEnd.{ChainEnd}
use Rattle.ods_alloc.specs.Extend.{last_of}

-- b is header n, and valid
pub record IsHeaderAt (I : List (List ℕ)) (L : VolumeLayout) (n : ℕ) (b : List ℕ) : Type 0 where
  pub is : b ≡ header_at I L n
  pub valid : IsValidHeader b n

-- the chain of file n ends in this header
pub record IsEndOf (I : List (List ℕ)) (L : VolumeLayout) (n : ℕ) (end : ChainEnd) : Type 0 where
  pub number : (others blocks : List ℕ) → IsChain I L n others blocks → end.number ≡ last_of n others
  pub last : end.last.now ≡ header_at I L end.number

-- the chain of file n has this number of headers, maps this number of blocks, and has this room in words after the pointers of its last header
abbrev pub IsMeasured : List (List ℕ) → VolumeLayout → ℕ → ChainEnd → Type 0
IsMeasured I L n end = (others blocks : List ℕ) → IsWhole I L n others blocks
    → (end.headers ≡ length (n ∷ others)) × (end.blocks ≡ length blocks) × (end.room ≡ room_of (header_at I L (last_of n others)))

-- in any image with these headers: if n has a chain there, of 256 headers at most, it ends in this header
abbrev pub EndsWhereDrafted : List (List ℕ) → VolumeLayout → ℕ → ChainEnd → Type 0
EndsWhereDrafted I L n end = (C : List (List ℕ)) (others blocks : List ℕ) → ((m : ℕ) → header_at C L m ≡ header_at I L m) → length others < 256 → IsChain C L n others blocks
    → (end.number ≡ last_of n others) × (end.last.now ≡ header_at I L end.number)

-- The chain of n with these headers after its first begins with block b, and has this end. If it has only one header, that is its last too, and the
-- block of the end has no effect.
pub record AreEnds (I : List (List ℕ)) (L : VolumeLayout) (n : ℕ) (others b : List ℕ) (end : ChainEnd) : Type 0 where
  pub first : b ≡ header_at I L n
  pub number : end.number ≡ last_of n others
  pub last : end.number ≢ n → end.last.now ≡ header_at I L end.number
