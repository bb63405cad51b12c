-- A chain of headers that are still there names at most as many blocks as a chain may: segments rise and are bytes.
use Rattle.std.proofs.Common.{◌≡◌, ℕ, ◌+◌, ◌*◌, ◌/◌, ◌%◌, ◌<◌, ◌≤◌, Bool, List, [], ◌∷◌, ◌++◌, length, inl, inr, ◌∙◌, ap, arith, length-append}
use Rattle.std.specs.Prelude.{slice_set}
use Rattle.std.proofs.lemmas.Bool.{cases_lt, cases_eq}
use Rattle.std.proofs.lemmas.List.{get_or-set_same, get_or-set_other, set_past}
use Rattle.ods_base.specs.Block.{byte, with_word, sum_of}
use Rattle.ods_base.specs.Image.{IsImage, block_at}
use Rattle.ods_header.specs.Header.{segment_of, map_word, blocks_of}
use Rattle.ods_space.specs.Chain.{header_blocks, chain_blocks}
use Rattle.ods_space.specs.Layout.{VolumeLayout, header_at, last_number, place_of}
use Rattle.ods_space.proofs.Chains.{small_of}
use Rattle.ods_space.proofs.Sizes.{blocks_few}
use Rattle.ods_remains.specs.Candidates.{HasCandidate, GoesOn, IsNext}
use Rattle.ods_remains.specs.Chains.{GoesAlong, named_at}
use Rattle.ods_remains.specs.Deleted.{IsDeleted, IsFormerFile, LeadsOn, former}
use Rattle.ods_remains.specs.Scanned.{IsScanned}
use Rattle.ods_remains.specs.declared.former.DeletedFile.{DeletedFile}
use Rattle.ods_remains.specs.declared.scanned.Scanned.{Scanned}
use Rattle.ods_remains.proofs.Going.{segment_small}
use Rattle.ods_remains.proofs.Keyed.{within}

-- each header of a chain has one segment more than the one before it, a byte, and names few blocks
pub record IsRising (block : ℕ → List ℕ) (at : ℕ) : Type 0 where
  pub byte : segment_of (block at) < 256
  pub few : length (blocks_of (block at)) ≤ header_blocks

-- so the headers from one on name at most so many blocks for each segment that is left
pub chain_few : (block : ℕ → List ℕ) (Leads IsNext : ℕ → ℕ → Type 0) (at : ℕ) (others : List ℕ) (cut : Bool)
    → ((a c : ℕ) → IsNext a c → (segment_of (block c) ≡ segment_of (block a) + 1) × IsRising block c)
    → IsRising block at → GoesAlong block Leads IsNext at others cut → length (named_at block (at ∷ others)) + header_blocks * segment_of (block at) ≤ chain_blocks
chain_few block Leads IsNext at [] cut rises here along =
    let byte = here.byte in
    let few = here.few in
    omega (arith, byte, few, length-append (blocks_of (block at)) [])
chain_few block Leads IsNext at (next ∷ rest) cut rises here along =
    let step = rises at next along.0 in
    let segment = step.0 in
    let few = here.few in
    let more = chain_few block Leads IsNext next rest cut rises step.1 along.1 in
    omega (arith, segment, few, more, length-append (blocks_of (block at)) (named_at block (next ∷ rest)))

-- a candidate is such a header
pub candidate_rises : (I : List (List ℕ)) (lbn : ℕ) → IsImage I → HasCandidate I lbn → IsRising (block_at I) lbn
candidate_rises I lbn image there = record {
  byte = segment_small I image lbn there;
  few = blocks_few (block_at I lbn) there.valid.header.layout (image.blocks lbn [] (within I lbn there)).bytes;
}

-- a file that a scan found
pub scanned_few : (I : List (List ℕ)) (first : ℕ) (file : Scanned) → IsImage I → IsScanned I first file → length file.blocks.items ≤ chain_blocks
scanned_few I first file image found =
    let named : file.blocks.items ≡ named_at (block_at I) (first ∷ found.others) = found.blocks ∙ ap (named_at (block_at I)) found.headers in
    let few = chain_few (block_at I) (GoesOn I) (IsNext I) first found.others file.is_cut
    (λ a c next. (next.named.named.segment, candidate_rises I c image next.named.there)) (candidate_rises I first image found.primary.0) found.chain in
    omega (arith, few, ap length named)

-- a list of bytes with one more byte, or one more word, set has bytes
byte_set : (b : List ℕ) (i x j : ℕ) → x < 256 → byte b j < 256 → byte (slice_set b i x) j < 256
byte_set b i x j small old = elim (cases_eq j i) [
  | inl same ↦ elim (cases_lt i (length b)) [
    | inl inside ↦ rw (same, get_or-set_same b i x 0 inside) small
    | inr past ↦ rw (set_past b i x past) old
  ]
  | inr other ↦ rw (get_or-set_other b i j x 0 other) old
]

word_set : (b : List ℕ) (k w j : ℕ) → w < 65536 → byte b j < 256 → byte (with_word b k w) j < 256
word_set b k w j small old = byte_set (slice_set b (2 * k) (w % 256)) (2 * k + 1) (w / 256) j (omega (arith, small)) (byte_set b (2 * k) (w % 256) j (omega arith) old)

sum_small : (b : List ℕ) (n : ℕ) → sum_of b n < 65536
unfolding sum_of
sum_small b n = omega arith

module _ (I : List (List ℕ)) (L : VolumeLayout) (image : IsImage I) (words : last_number L < 65536) where
  former_byte : (n : ℕ) → IsDeleted I L n → (j : ℕ) → byte (former I L n) j < 256
  former_byte n deleted j =
      let low = deleted.high in
      let numbered : byte (with_word (header_at I L n) 1 n) j < 256 = word_set (header_at I L n) 1 n j (omega (arith, low, words)) (small_of I (place_of L n) j image) in
      word_set (with_word (header_at I L n) 1 n) 255 (sum_of (with_word (header_at I L n) 1 n) 255) j (sum_small (with_word (header_at I L n) 1 n) 255) numbered

  -- a deleted header is one that rises
  deleted_rises : (n : ℕ) → IsDeleted I L n → IsRising (former I L) n
  deleted_rises n deleted = record {
    byte = former_byte n deleted (2 * map_word (former I L n));
    few = blocks_few (former I L n) deleted.left.valid.header.layout (former_byte n deleted);
  }

  -- a deleted file
  pub former_few : (n : ℕ) (file : DeletedFile) → IsFormerFile I L n file → length file.blocks.items ≤ chain_blocks
  former_few n file follows =
      let named : file.blocks.items ≡ named_at (former I L) (n ∷ follows.others) = follows.blocks ∙ ap (named_at (former I L)) follows.headers in
      let few = chain_few (former I L) (LeadsOn I L) (LeadsOn I L) n follows.others file.is_cut
      (λ a c next. (next.named.segment, deleted_rises c next.there)) (deleted_rises n follows.deleted.0) follows.chain in
      omega (arith, few, ap length named)
