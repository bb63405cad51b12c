-- Files whose records are not whole, and files with a record that is longer than F.RSIZ.
use Rattle.std.specs.Prelude.{◌≡◌, ℕ, ◌<◌, List, Some}
use Rattle.ods_space.specs.Layout.{VolumeLayout}
use Rattle.ods_files.specs.Body.{Body, HasBody, bytes_in}
use Rattle.ods_files.specs.declared.form.Form.TheVariants.{Binary}
use Rattle.ods_records.specs.Attributes.{kind_in}
use Rattle.ods_records.specs.Faults.{IsFirstFault}
use Rattle.ods_records.specs.Long.{IsFirstLong}
use Rattle.ods_records.specs.Records.{word_at}
use Rattle.ods_records.specs.declared.kind.RecordKind.{RecordKind}
use Rattle.ods_records.specs.declared.faults.RecordFault.{RecordFault}

-- the file has records, and this is the first fault of its bytes up to the end of file
abbrev pub IsSpoiled : Body → RecordFault → Type 0
IsSpoiled body fault = (kind : RecordKind) × (bytes : List ℕ) × (kind_in body.attributes ≡ Some kind) × (bytes_in Binary body ≡ Some bytes) × IsFirstFault kind bytes fault

-- file n has records, and this is their fault
abbrev pub HasSpoiledRecords : List (List ℕ) → VolumeLayout → ℕ → RecordFault → Type 0
HasSpoiledRecords I L n fault = (body : Body) × HasBody I L n body × IsSpoiled body fault

-- F.RSIZ, the greatest size of a record
abbrev pub record_size : Body → ℕ
record_size body = word_at body.attributes 2

-- the file has records and specifies their greatest size; the record at this position is the first longer one, with `size` bytes
abbrev pub IsTooLongIn : Body → ℕ → ℕ → Type 0
IsTooLongIn body at size =
    (kind : RecordKind) × (bytes : List ℕ) × (kind_in body.attributes ≡ Some kind) × (bytes_in Binary body ≡ Some bytes) × (0 < record_size body) × IsFirstLong kind bytes (record_size body) at size

-- file n has this record, which is longer than F.RSIZ
abbrev pub HasLongRecord : List (List ℕ) → VolumeLayout → ℕ → ℕ → ℕ → Type 0
HasLongRecord I L n at size = (body : Body) × HasBody I L n body × IsTooLongIn body at size
