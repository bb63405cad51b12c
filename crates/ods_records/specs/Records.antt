-- A text file as RSX stores it (the standard's FCS record structure): consecutive records. Offsets are counted in bytes from 0.
use Rattle.std.specs.Prelude.{◌≡◌, ℕ, ◌+◌, ◌*◌, ◌/◌, ◌%◌, ◌≤◌, min, List, [], ◌∷◌, ◌++◌, length, slice_index, slice_range, Option, Some, None}
use Rattle.std.specs.List.{flat_map}
use Rattle.std.specs.Option.{option_to_list}
use Rattle.ods_records.specs.declared.kind.RecordKind.{RecordKind}
use Rattle.ods_records.specs.declared.kind.RecordKind.TheVariants.{Variable, Sequenced}

-- the word at an offset, low byte first
abbrev pub word_at : List ℕ → ℕ → ℕ
word_at bytes at = slice_index bytes at + 256 * slice_index bytes (at + 1)

-- the size of the header of a record in bytes, which contains its number; the size is stored in a byte
abbrev pub number_size : RecordKind → ℕ
number_size Variable = 0
number_size (Sequenced size) = min size 255

-- A record: a word with its length, at most 32,767, and that many bytes; its contents are the bytes after its number. If the length is odd, a padding
-- byte comes before the next record, and the last record may lack it.
pub record IsRecord (kind : RecordKind) (bytes : List ℕ) (at : ℕ) (record_bytes : List ℕ) (next : ℕ) : Type 0 where
  pub numbered : number_size kind ≤ word_at bytes at
  pub short : word_at bytes at ≤ 32767
  pub within : at + 2 + word_at bytes at ≤ length bytes
  pub says : record_bytes ≡ slice_range bytes (at + 2 + number_size kind) (at + 2 + word_at bytes at)
  pub behind : next ≡ min (at + 2 + word_at bytes at + word_at bytes at % 2) (length bytes)

-- A length of 65,535: the rest of this block of 512 bytes is unused.
pub record IsUnused (bytes : List ℕ) (at next : ℕ) : Type 0 where
  pub mark : word_at bytes at ≡ 65535
  pub within : at + 2 ≤ length bytes
  pub behind : next ≡ min (512 * (at / 512 + 1)) (length bytes)

-- The content of an offset: a record, or no record in the rest of the block. `next` is the offset after it.
abbrev pub Stands : RecordKind → List ℕ → ℕ → Option (List ℕ) → ℕ → Type 0
Stands kind bytes at (Some record_bytes) next = IsRecord kind bytes at record_bytes next
Stands kind bytes at None next = IsUnused bytes at next

-- these are consecutive from one offset up to another
abbrev pub Leads : RecordKind → List ℕ → ℕ → List (Option (List ℕ)) → ℕ → Type 0
Leads kind bytes at [] to = at ≡ to
Leads kind bytes at (x ∷ xs) to = (next : ℕ) × Stands kind bytes at x next × Leads kind bytes next xs to

-- the bytes spell these records
pub record Spells (kind : RecordKind) (bytes : List ℕ) (records : List (List ℕ)) : Type 0 where
  pub standing : List (Option (List ℕ))
  pub whole : Leads kind bytes 0 standing (length bytes)
  pub each : records ≡ flat_map option_to_list standing

-- each record, followed by LF
abbrev pub text_of : List (List ℕ) → List ℕ
text_of records = flat_map (λ r. r ++ 10 ∷ []) records
