-- The bytes that are extracted from a put file, over the definitions only.
use Rattle.std.specs.Prelude.{◌≡◌, ℕ, ◌*◌, ◌^◌, ◌<◌, true, List, length, take, drop, Some}
use Rattle.std.specs.FinMap as finmap
use Rattle.ods_base.specs.declared.file_id.FileId.{FileId}
use Rattle.ods_space.specs.Layout.{VolumeLayout}
use Rattle.ods_request.specs.Catalogue.{Catalogue, File, Plain}
use Rattle.ods_state.specs.Contents.{ShowsBy}
use Rattle.ods_files.specs.Body.{Body, HasBody, bytes_in}
use Rattle.ods_files.specs.declared.form.Form.TheVariants.{Binary}
use Rattle.ods_records.specs.Attributes.{attributes, ending_at, kind_in}
use Rattle.ods_records.specs.Lines.{IsPlainText}
use Rattle.ods_records.specs.Records.{Spells, text_of}
use Rattle.ods_records.specs.Survey.{come_as_lines}
use Rattle.ods_records.specs.Written.{IsWritten}
use Rattle.ods_records.specs.declared.kind.RecordKind.{RecordKind}
use Rattle.ods_records.specs.declared.kind.RecordKind.TheVariants.{Variable}
use Rattle.ods_filing.specs.Put.{blocks_with}

-- the blocks of the volume show a plain file with these attributes, and with these bytes as its blocks
pub record ShowsBytes (I : List (List ℕ)) (L : VolumeLayout) (id : FileId) (attributes bytes : List ℕ) : Type 0 where
  pub catalogue : Catalogue
  pub shown : ShowsBy I L catalogue
  pub file : File
  pub there : finmap.get catalogue.files id ≡ Some file
  pub body : file.body ≡ Plain attributes (blocks_with bytes)

-- the number has a body, and for each such body, its bytes up to the end of file are these
pub record GivesBack (I : List (List ℕ)) (L : VolumeLayout) (n : ℕ) (attributes bytes : List ℕ) : Type 0 where
  pub body : Body
  pub has : HasBody I L n body
  pub gives : (other : Body) → HasBody I L n other → (other.attributes ≡ attributes) × (bytes_in Binary other ≡ Some bytes)

-- the attributes of a file of these bytes in records of 512 bytes, and of a file with variable records, each a line
abbrev pub binary_of : List ℕ → List ℕ
binary_of bytes = attributes 1 0 512 (length bytes)

abbrev pub lines_of : ℕ → List ℕ → List ℕ
lines_of longest bytes = attributes 2 2 longest (length bytes)

-- a file that was put as bytes gives these bytes back
abbrev pub BytesComeBack : Type 0
BytesComeBack = (I : List (List ℕ)) (L : VolumeLayout) (id : FileId) (bytes : List ℕ) → length bytes < 512 * 2 ^ 20
    → ShowsBytes I L id (binary_of bytes) bytes → GivesBack I L id.number (binary_of bytes) bytes

-- A file that was put as the records of a plain text gives back the bytes of these records. By its attributes these bytes are variable records. They
-- spell some records, and the records that they spell, each followed by LF, are the text.
abbrev pub TextComesBack : Type 0
TextComesBack = (I : List (List ℕ)) (L : VolumeLayout) (id : FileId) (text bytes : List ℕ) (longest : ℕ) → length bytes < 512 * 2 ^ 20
    → IsPlainText text → IsWritten text bytes longest → ShowsBytes I L id (lines_of longest bytes) bytes
    → GivesBack I L id.number (lines_of longest bytes) bytes × (kind_in (lines_of longest bytes) ≡ Some Variable)
    × ((records : List (List ℕ)) × Spells Variable bytes records)
    × ((records : List (List ℕ)) → Spells Variable bytes records → text_of records ≡ text)

-- the attributes of another file, for a file of these bytes
abbrev pub formed_as : List ℕ → List ℕ → List ℕ
formed_as own bytes = ending_at own (length bytes)

-- A file that was put as bytes with the attributes of another file, except F.HIBK, F.EFBK and F.FFBY, gives these bytes back. All other attributes
-- are unchanged.
abbrev pub FormComesBack : Type 0
FormComesBack = (I : List (List ℕ)) (L : VolumeLayout) (id : FileId) (own bytes : List ℕ) → length own ≡ 32 → length bytes < 512 * 2 ^ 20 → ShowsBytes I L id (formed_as own bytes) bytes
    → GivesBack I L id.number (formed_as own bytes) bytes × (take 4 (formed_as own bytes) ≡ take 4 own) × (drop 14 (formed_as own bytes) ≡ drop 14 own)

-- Records that are extracted as lines without an option, and put again as a text, are the records of the new file, and it has no others.
abbrev pub ChosenComesBack : Type 0
ChosenComesBack = (I : List (List ℕ)) (L : VolumeLayout) (id : FileId) (kind : RecordKind) (old bytes : List ℕ) (records : List (List ℕ)) (new : List ℕ) (longest : ℕ) → length new < 512 * 2 ^ 20
    → Spells kind bytes records → come_as_lines old records ≡ true → IsWritten (text_of records) new longest → ShowsBytes I L id (lines_of longest new) new
    → GivesBack I L id.number (lines_of longest new) new × (kind_in (lines_of longest new) ≡ Some Variable)
    × Spells Variable new records
    × ((other : List (List ℕ)) → Spells Variable new other → other ≡ records)
