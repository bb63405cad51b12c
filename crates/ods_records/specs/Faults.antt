-- Why bytes are not valid records. An offset has at most one fault, and an offset with a fault has no record.
use Rattle.std.specs.Prelude.{◌≡◌, ◌≢◌, ℕ, ◌+◌, ◌<◌, ◌≤◌, List, length, Option}
use Rattle.ods_records.specs.declared.kind.RecordKind.{RecordKind}
use Rattle.ods_records.specs.declared.faults.RecordFault.{RecordFault}
use Rattle.ods_records.specs.declared.faults.RecordFault.TheVariants.{CutLength, PastEnd, TooLong, NoNumber, NoMemory}
use Rattle.ods_records.specs.Records.{word_at, number_size, Leads}

-- one byte is left, and a length has two
abbrev pub IsCutLength : List ℕ → ℕ → Type 0
IsCutLength bytes at = at + 1 ≡ length bytes

-- the length is valid for a record, and the file ends before that many bytes
abbrev pub IsPastEnd : RecordKind → List ℕ → ℕ → Type 0
IsPastEnd kind bytes at = (at + 2 ≤ length bytes) × (number_size kind ≤ word_at bytes at) × (word_at bytes at ≤ 32767) × (length bytes < at + 2 + word_at bytes at)

-- the length is above 32,767, and does not mark the rest of the block as unused
abbrev pub IsTooLong : List ℕ → ℕ → Type 0
IsTooLong bytes at = (at + 2 ≤ length bytes) × (32767 < word_at bytes at) × (word_at bytes at ≢ 65535)

-- the record is too short for its number
abbrev pub HasNoNumber : RecordKind → List ℕ → ℕ → Type 0
HasNoNumber kind bytes at = (at + 2 ≤ length bytes) × (word_at bytes at < number_size kind)

-- the fault at an offset
abbrev pub IsFaultAt : RecordKind → List ℕ → ℕ → RecordFault → Type 0
IsFaultAt kind bytes at (CutLength place) = (place ≡ at) × IsCutLength bytes at
IsFaultAt kind bytes at (PastEnd place) = (place ≡ at) × IsPastEnd kind bytes at
IsFaultAt kind bytes at (TooLong place) = (place ≡ at) × IsTooLong bytes at
IsFaultAt kind bytes at (NoNumber place) = (place ≡ at) × HasNoNumber kind bytes at
IsFaultAt kind bytes at NoMemory = ⊥

-- there are records up to an offset, and the fault is there
pub record IsFirstFault (kind : RecordKind) (bytes : List ℕ) (fault : RecordFault) : Type 0 where
  pub at : ℕ
  pub standing : List (Option (List ℕ))
  pub before : Leads kind bytes 0 standing at
  pub there : IsFaultAt kind bytes at fault

-- why these bytes are not valid records; memory may run out at any moment
abbrev pub IsFault : RecordKind → List ℕ → RecordFault → Type 0
IsFault kind bytes NoMemory = Unit {0}
IsFault kind bytes (CutLength place) = IsFirstFault kind bytes (CutLength place)
IsFault kind bytes (PastEnd place) = IsFirstFault kind bytes (PastEnd place)
IsFault kind bytes (TooLong place) = IsFirstFault kind bytes (TooLong place)
IsFault kind bytes (NoNumber place) = IsFirstFault kind bytes (NoNumber place)
