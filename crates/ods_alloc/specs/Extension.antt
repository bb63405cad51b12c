-- Extension headers that are written for a file.
use Rattle.std.specs.Prelude.{◌≡◌, ◌≢◌, ℕ, ◌+◌, ◌*◌, ◌/◌, ◌<◌, ◌≤◌, List, [], ◌∷◌, slice_index, length, take, drop, Some}
use Rattle.ods_base.specs.Image.{block_at}
use Rattle.ods_header.specs.declared.header.Run.{Run}
use Rattle.ods_header.specs.declared.header.Header.{Header}
use Rattle.ods_header.specs.Header.{IsValidHeader, header_of, segment_of, sequence_of, next_volume_of, next_number_of, next_sequence_of, runs_of, room_of}
use Rattle.ods_space.specs.Draft.{Changes, applied}
use Rattle.ods_space.specs.declared.disk.Disk.{Disk}
use Rattle.ods_space.specs.Layout.{VolumeLayout, header_at, last_number, place_of}
use Rattle.ods_header.specs.Extension.{IsExtensionOf}
use Rattle.ods_header.specs.Pointing.{IsGrown}
use Rattle.ods_alloc.specs.Extend.{IsHeaderPlace}

-- the number of the first of these headers, or 0 if there are none
abbrev pub first_number : List ℕ → ℕ
first_number [] = 0
first_number (m ∷ ms) = m

-- the sequence number of the first of these new headers: the old one of its block plus one, or 0 if there are none
abbrev pub first_sequence : List (List ℕ) → VolumeLayout → List ℕ → ℕ
first_sequence I L [] = 0
first_sequence I L (m ∷ ms) = sequence_of (header_at I L m) + 1

-- the same, for a disk after a draft
abbrev pub sequence_drafted : Disk → Changes → List ℕ → ℕ
sequence_drafted D d numbers = first_sequence (applied D.image.now d) D.layout.now numbers

-- b is written as header m, of this segment, for a file whose first header is f: it has these pointers and links to the first of the next headers
pub record IsMade (I : List (List ℕ)) (L : VolumeLayout) (f : List ℕ) (segment m : ℕ) (runs : List Run) (behind : List ℕ) (b : List ℕ) : Type 0 where
  pub valid : IsValidHeader b m
  pub extension : IsExtensionOf f b
  pub in_chain : segment_of b ≡ segment
  pub sequence : sequence_of b ≡ sequence_of (header_at I L m) + 1
  pub pointers : runs_of b ≡ runs
  pub next_volume : next_volume_of b ≡ 0
  pub next_number : next_number_of b ≡ first_number behind
  pub next_sequence : next_sequence_of b ≡ first_sequence I L behind

-- header m can be written: it has an LBN, and the old sequence number of its block is below 65,535
pub record CanBeMade (I : List (List ℕ)) (L : VolumeLayout) (m : ℕ) : Type 0 where
  pub some : 1 ≤ m
  pub last : m ≤ last_number L
  pub below : sequence_of (header_at I L m) < 65535

-- J is I with the first `count` of these extension headers written, for a file whose first header has these fields: each takes the next 102 of the
-- runs, and the first of them has this segment
pub record MakesHeaders (I : List (List ℕ)) (L : VolumeLayout) (first : Header) (segment : ℕ) (numbers : List ℕ) (runs : List Run) (count : ℕ) (J : List (List ℕ)) : Type 0 where
  pub size : length J ≡ length I
  pub made : (f : List ℕ) → header_of f ≡ first → (i : ℕ) → i < count → IsMade I L f (segment + i) (slice_index numbers i) (take 102 (drop (102 * i) runs)) (drop (i + 1) numbers) (header_at J L (slice_index numbers i))
  pub others : (lbn : ℕ) → ¬ IsHeaderPlace L (take count numbers) lbn → block_at J lbn ≡ block_at I lbn

-- the disk after the second draft is the disk after the first, with all of these headers written
abbrev pub MakesHeadersDrafted : Disk → Changes → Header → ℕ → List ℕ → List Run → Changes → Type 0
MakesHeadersDrafted D before first segment numbers runs after =
    MakesHeaders (applied D.image.now before) D.layout.now first segment numbers runs (length numbers) (applied D.image.now after)

-- J is I in which the chain of file n, whose last header is z, is grown by these headers. z has as many of the runs as it has room for and links to
-- the first of them, and each of them takes the next 102
pub record WritesHeaders (I : List (List ℕ)) (L : VolumeLayout) (n z : ℕ) (numbers : List ℕ) (runs : List Run) (J : List (List ℕ)) : Type 0 where
  pub size : length J ≡ length I
  pub last : IsGrown (header_at I L z) runs (first_number numbers) (first_sequence I L numbers) (header_at J L z)
  pub made : (i : ℕ) → i < length numbers → IsMade I L (header_at I L n) (segment_of (header_at I L z) + 1 + i) (slice_index numbers i) (take 102 (drop (102 * i) (drop (room_of (header_at I L z) / 2) runs))) (drop (i + 1) numbers) (header_at J L (slice_index numbers i))
  pub others : (lbn : ℕ) → ¬ IsHeaderPlace L numbers lbn → place_of L z ≢ Some lbn → block_at J lbn ≡ block_at I lbn

-- the disk after the second draft is the disk after the first, with that chain grown
abbrev pub WritesHeadersDrafted : Disk → Changes → ℕ → ℕ → List ℕ → List Run → Changes → Type 0
WritesHeadersDrafted D before n z numbers runs after =
    WritesHeaders (applied D.image.now before) D.layout.now n z numbers runs (applied D.image.now after)
