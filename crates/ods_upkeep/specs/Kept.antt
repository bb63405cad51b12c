-- The form that put keeps of the version before, by attributes and bytes only.
use Rattle.std.specs.Prelude.{◌≡◌, ◌⊎◌, ◌≤◌, ◌==◌, ◌&&◌, ◌||◌, ℕ, Bool, true, false, List, slice_index, Option, Some, None}
use Rattle.std.specs.List.{list_all}
use Rattle.ods_files.specs.Body.{are_zeros}
use Rattle.ods_records.specs.Attributes.{is_controlled, kind_in}
use Rattle.ods_records.specs.Lines.{IsPlainText, is_text_byte, longest_of}
use Rattle.ods_records.specs.Records.{Spells, word_at}
use Rattle.ods_records.specs.Survey.{come_as_lines}
use Rattle.ods_records.specs.declared.kind.RecordKind.{RecordKind}
use Rattle.ods_shell.specs.Contents.{is_line_stream}
use Rattle.ods_upkeep.specs.Written.{ArePutAsText}
use Rattle.ods_upkeep.specs.declared.asked.PutForm.{PutForm}
use Rattle.ods_upkeep.specs.declared.asked.PutForm.TheVariants as form

-- The lines of the bytes are variable records of this form, from which `get` extracts the same lines. The organization of the file is sequential. The
-- bytes are a plain text, and either the records have carriage control or each byte is valid in a text.
pub record StayLines (own bytes : List ℕ) : Type 0 where
  pub variable : slice_index own 0 ≡ 2
  pub plain : IsPlainText bytes
  pub shown : (is_controlled own ≡ true) ⊎ (list_all is_text_byte bytes ≡ true)

-- The bytes spell records of this kind, none longer than F.RSIZ unless that is 0, and `get` does not extract them as lines.
pub record AreRawRecords (kind : RecordKind) (own bytes : List ℕ) : Type 0 where
  pub records : List (List ℕ)
  pub spelled : Spells kind bytes records
  pub short : (word_at own 2 ≡ 0) ⊎ (longest_of records ≤ word_at own 2)
  pub raw : come_as_lines own records ≡ false

-- the same, or the bytes of a file that has no records with a length, and is not a stream of lines
abbrev pub AreRaw : Option RecordKind → List ℕ → List ℕ → Type 0
AreRaw None own bytes = is_line_stream own ≡ false
AreRaw (Some kind) own bytes = AreRawRecords kind own bytes

-- the attributes state no form of their own: they were never written, or are of records of 512 bytes, as bytes get them by their contents
abbrev pub has_no_form : List ℕ → Bool
has_no_form own = are_zeros own || ((slice_index own 0 == 1) && (slice_index own 1 == 0) && (word_at own 2 == 512))

-- The bytes are not a text, and `get` extracts them unchanged from a file of this form.
pub record StayBytes (own bytes : List ℕ) : Type 0 where
  pub other : ¬ ArePutAsText form.ByContents None bytes
  pub formed : has_no_form own ≡ false
  pub raw : AreRaw (kind_in own) own bytes

-- The form of a file, and the attributes of its model file, after a version with these attributes: the form of that version, as bytes or as lines, if
-- `get` then gives the bytes of the host file. Otherwise the contents determine it, and so they do without a version before.
abbrev pub IsKept : Option (List ℕ) → List ℕ → PutForm → Option (List ℕ) → Type 0
IsKept None bytes chosen like = (chosen ≡ form.ByContents) × (like ≡ None)
IsKept (Some own) bytes chosen like =
    (StayBytes own bytes × (chosen ≡ form.Binary) × (like ≡ Some own))
    ⊎ (((¬ StayBytes own bytes) × StayLines own bytes × (chosen ≡ form.ByContents) × (like ≡ Some own))
    ⊎ ((¬ StayBytes own bytes) × (¬ StayLines own bytes) × (chosen ≡ form.ByContents) × (like ≡ None)))

-- the attributes of the version before, if there is one and its form is not kept
abbrev pub IsNotKept : Option (List ℕ) → List ℕ → Option (List ℕ) → Type 0
IsNotKept None bytes former = former ≡ None
IsNotKept (Some own) bytes former = ((StayBytes own bytes ⊎ StayLines own bytes) × (former ≡ None)) ⊎ ((¬ StayBytes own bytes) × (¬ StayLines own bytes) × (former ≡ Some own))
