-- Laws of the definitions.
use Rattle.std.specs.Prelude.{◌≡◌, ℕ, ◌^◌, ◌*◌, ◌<◌, ◌≤◌, ◌⊎◌, true, List, length}
use Rattle.std.specs.List.{All, flat_map}
use Rattle.std.specs.Str.Lines.{lines}
use Rattle.ods_records.specs.declared.kind.RecordKind.{RecordKind}
use Rattle.ods_records.specs.declared.kind.RecordKind.TheVariants.{Variable}
use Rattle.ods_records.specs.declared.faults.RecordFault.{RecordFault}
use Rattle.ods_records.specs.Records.{Spells, text_of}
use Rattle.ods_records.specs.Faults.{IsFirstFault}
use Rattle.ods_records.specs.Lines.{IsPlainText}
use Rattle.ods_records.specs.Written.{written}
use Rattle.ods_records.specs.Survey.{come_as_lines}
use Rattle.ods_records.specs.Attributes.{end_of, ending_at}

-- bytes spell at most one list of records
abbrev pub OneReading : Type 0
OneReading = (kind : RecordKind) (bytes : List ℕ) (one other : List (List ℕ)) → Spells kind bytes one → Spells kind bytes other → one ≡ other

-- bytes have at most one fault, and if they have one they spell no records
abbrev pub OneFault : Type 0
OneFault = (kind : RecordKind) (bytes : List ℕ) (fault : RecordFault) → IsFirstFault kind bytes fault →
    ((other : RecordFault) → IsFirstFault kind bytes other → fault ≡ other) × ((records : List (List ℕ)) → Spells kind bytes records → ⊥)

-- bytes spell records, or have a fault
abbrev pub RecordsOrFault : Type 0
RecordsOrFault = (kind : RecordKind) (bytes : List ℕ) → ((records : List (List ℕ)) × Spells kind bytes records) ⊎ ((fault : RecordFault) × IsFirstFault kind bytes fault)

-- The written bytes of records spell these records, and no others, since bytes spell at most one list.
abbrev pub WrittenIsRead : Type 0
WrittenIsRead = (records : List (List ℕ)) → All (λ r. length r ≤ 32767) records → Spells Variable (flat_map written records) records

-- The lines of a plain text, each followed by LF, are the text; and its written bytes spell its lines.
abbrev pub PlainTextComesBack : Type 0
PlainTextComesBack = (text : List ℕ) → IsPlainText text → Spells Variable (flat_map written (lines text)) (lines text) × (text_of (lines text) ≡ text)

-- Records that are extracted as lines without an option come back: they are the lines of their text, and its written bytes spell them.
abbrev pub LinesComeBack : Type 0
LinesComeBack = (kind : RecordKind) (attributes bytes : List ℕ) (records : List (List ℕ)) → Spells kind bytes records → come_as_lines attributes records ≡ true
    → (lines (text_of records) ≡ records) × Spells Variable (flat_map written (lines (text_of records))) records

-- attributes that are set for a file of n bytes give n as its end
abbrev pub EndIsSet : Type 0
EndIsSet = (own : List ℕ) (n : ℕ) → length own ≡ 32 → n < 512 * 2 ^ 20 → end_of (ending_at own n) ≡ n
