-- Directory entries: 16 bytes each, 32 in a block.
use Rattle.std.specs.Prelude.{◌≡◌, ℕ, ◌+◌, ◌*◌, ◌/◌, ◌%◌, ◌<◌, ◌≤◌, Bool, not, ◌&&◌, ◌==◌, nat_lt, nat_le, List, [], ◌∷◌, ◌++◌, map, slice_index}
use Rattle.std.specs.List.{filter, range_with_len}
use Rattle.std.specs.Int.{to_le_bytes, w16}
use Rattle.ods_base.specs.declared.file_id.FileId.{FileId}
use Rattle.ods_base.specs.Block.{word}
pub use Rattle.ods_base.specs.Block.{with_bytes}
use Rattle.ods_base.specs.Image.{block_at}

-- an entry: the file ID with its relative volume number, and the key, which is the three name words, the type word and the version
pub record Entry : Type 0 where
  pub file : FileId
  pub volume : ℕ
  pub key : List ℕ

-- entry k of a block
abbrev pub entry_in : List ℕ → ℕ → Entry
entry_in b k =
    let at = 8 * k in
    record {
      file = record { number = word b at; sequence = word b (at + 1) };
      volume = word b (at + 2);
      key = word b (at + 3) ∷ word b (at + 4) ∷ word b (at + 5) ∷ word b (at + 6) ∷ word b (at + 7) ∷ [];
    }

-- entry k of a directory with these blocks
abbrev pub entry_at : List (List ℕ) → ℕ → Entry
entry_at blocks k = entry_in (block_at blocks (k / 32)) (k % 32)

-- file number 0 marks an empty entry
abbrev pub is_used : Entry → Bool
is_used e = not (e.file.number == 0)

-- a valid entry: name and type words are below 64,000, the version is 1 to 32,767, the relative volume number is 0
pub record IsGoodEntry (e : Entry) : Type 0 where
  pub words : (i : ℕ) → i < 4 → slice_index e.key i < 64000
  pub some : 1 ≤ slice_index e.key 4
  pub most : slice_index e.key 4 ≤ 32767
  pub volume : e.volume ≡ 0

-- whether an entry is valid, as a test
abbrev pub is_good : Entry → Bool
is_good e =
    nat_lt (slice_index e.key 0) 64000 && nat_lt (slice_index e.key 1) 64000 && nat_lt (slice_index e.key 2) 64000 && nat_lt (slice_index e.key 3) 64000
    && nat_le 1 (slice_index e.key 4) && nat_le (slice_index e.key 4) 32767 && e.volume == 0

-- the used entries before the end mark, in the order of the blocks; only whole entries count, so there are mark / 16 of them
unfoldable pub used_entries : List (List ℕ) → ℕ → List Entry
used_entries blocks mark = filter is_used (map (entry_at blocks) (range_with_len 0 (mark / 16)))

-- the 16 bytes of an entry on this volume
abbrev pub entry_bytes : FileId → List ℕ → List ℕ
entry_bytes file key =
    to_le_bytes w16 file.number ++ to_le_bytes w16 file.sequence ++ to_le_bytes w16 0
    ++ to_le_bytes w16 (slice_index key 0) ++ to_le_bytes w16 (slice_index key 1) ++ to_le_bytes w16 (slice_index key 2)
    ++ to_le_bytes w16 (slice_index key 3) ++ to_le_bytes w16 (slice_index key 4)
