-- The attributes and bytes that put writes of a host file, and why it writes none.
use Rattle.std.specs.Prelude.{◌≡◌, ◌⊎◌, ◌≤◌, ◌<◌, ◌*◌, ◌^◌, ℕ, true, List, ◌++◌, length, replicate, Option, Some, None, Vec}
use Rattle.std.specs.List.{list_all}
use Rattle.std.specs.declared.alloc.Global.{Global}
use Rattle.ods_records.specs.Attributes.{attributes as attributes_of, kind_in}
use Rattle.ods_records.specs.Lines.{IsPlainText, is_text_byte}
use Rattle.ods_records.specs.Written.{IsTextFault, IsWritten as AreLinesWritten}
use Rattle.ods_records.specs.declared.faults.TextFault.{TextFault}
use Rattle.ods_records.specs.declared.kind.RecordKind.TheVariants.{Variable}
use Rattle.ods_request.specs.declared.refusals.Refusal.TheVariants.{VolumeFull}
use Rattle.ods_upkeep.specs.Pieces.{like_those, with_end}
use Rattle.ods_upkeep.specs.PutFor.{FitsForm, IsUnfit, like_greater}
use Rattle.ods_upkeep.specs.declared.asked.PutForm.{PutForm}
use Rattle.ods_upkeep.specs.declared.asked.PutForm.TheVariants as form
use Rattle.ods_upkeep.specs.declared.failure.Why.{Why}
use Rattle.ods_upkeep.specs.declared.failure.Why.TheVariants.{Put, Request, Text}
use Rattle.ods_upkeep.specs.declared.put_fault.PutFault.{PutFault}
use Rattle.ods_upkeep.specs.declared.written.Written.{Written}

-- Bytes become records if a text is requested. If nothing is specified they do if they are a text that comes back unchanged. With a model file, that
-- file decides: it has variable records.
abbrev pub ArePutAsText : PutForm → Option (List ℕ) → List ℕ → Type 0
ArePutAsText asked (Some like) bytes = kind_in like ≡ Some Variable
ArePutAsText form.Text None bytes = Unit {0}
ArePutAsText form.ByContents None bytes = (list_all is_text_byte bytes ≡ true) × IsPlainText bytes
ArePutAsText form.Binary None bytes = ⊥
ArePutAsText (form.Said four) None bytes = ⊥

-- The attributes of records. With a model file, they get its form, and the greater record size of both.
abbrev pub records_like : Option (List ℕ) → List ℕ → List ℕ
records_like None own = own
records_like (Some like) own = like_greater own like

-- The attributes of bytes. With a model file, they get its form and its record size.
abbrev pub bytes_like : Option (List ℕ) → List ℕ → List ℕ
bytes_like None own = own
bytes_like (Some like) own = like_those own like

-- The lines of a text are written, each a record with a length. F.RTYP is 2, and F.RATT 2 says that a carriage return is implied.
pub record AreRecords (like : Option (List ℕ)) (bytes attributes written : List ℕ) : Type 0 where
  pub longest : ℕ
  pub lines : AreLinesWritten bytes written longest
  pub small : length written < 512 * 2 ^ 20
  pub are : attributes ≡ records_like like (attributes_of 2 2 longest (length written))

-- The bytes are written unchanged. F.RTYP is 1, and F.RSIZ 512.
pub record AreBytes (like : Option (List ℕ)) (bytes attributes written : List ℕ) : Type 0 where
  pub same : written ≡ bytes
  pub small : length bytes < 512 * 2 ^ 20
  pub are : attributes ≡ bytes_like like (attributes_of 1 0 512 (length bytes))

-- The bytes are written unchanged, with attributes that they fit. The end of file is after them.
pub record AreInForm (own bytes attributes written : List ℕ) : Type 0 where
  pub same : written ≡ bytes
  pub fit : FitsForm own bytes
  pub small : length bytes < 512 * 2 ^ 20
  pub are : attributes ≡ with_end own (length bytes)

-- as records, or unchanged
abbrev pub IsByContents : PutForm → Option (List ℕ) → List ℕ → List ℕ → List ℕ → Type 0
IsByContents asked like bytes attributes written =
    (ArePutAsText asked like bytes × AreRecords like bytes attributes written) ⊎ ((¬ ArePutAsText asked like bytes) × AreBytes like bytes attributes written)

-- These attributes and these bytes are written of a host file: in the requested form, or like another file. A form of four bytes has zeros otherwise.
abbrev pub IsWritten : PutForm → Option (List ℕ) → List ℕ → List ℕ → List ℕ → Type 0
IsWritten (form.Said four) like bytes attributes written = AreInForm (four ++ replicate 28 0) bytes attributes written
IsWritten form.Binary (Some own) bytes attributes written = AreInForm own bytes attributes written
IsWritten form.Binary None bytes attributes written = IsByContents form.Binary None bytes attributes written
IsWritten form.Text like bytes attributes written = IsByContents form.Text like bytes attributes written
IsWritten form.ByContents like bytes attributes written = IsByContents form.ByContents like bytes attributes written

-- the bytes that are written: the records, or else the host file's own
abbrev pub records_or : Option (Vec ℕ Global) → List ℕ → List ℕ
records_or None own = own
records_or (Some records) own = records.items

abbrev pub bytes_of : Written → List ℕ
bytes_of w = records_or w.records w.host.now

-- no file has this number of bytes
abbrev pub IsTooLong : ℕ → Why → Type 0
IsTooLong count why = (why ≡ Request VolumeFull) × (512 * 2 ^ 20 ≤ count)

-- why a text is not written as records; memory may run out at any moment
abbrev pub AreNoRecords : List ℕ → Why → Type 0
AreNoRecords bytes why =
    ((fault : TextFault) × (why ≡ Text fault) × IsTextFault bytes fault)
    ⊎ ((written : List ℕ) × ((longest : ℕ) × AreLinesWritten bytes written longest × IsTooLong (length written) why))

-- why bytes are not written with these attributes
abbrev pub AreNotInForm : List ℕ → List ℕ → Why → Type 0
AreNotInForm own bytes why = ((fault : PutFault) × (why ≡ Put fault) × IsUnfit own bytes fault) ⊎ (FitsForm own bytes × IsTooLong (length bytes) why)

-- why they are not written as records, or unchanged
abbrev pub IsNotByContents : PutForm → Option (List ℕ) → List ℕ → Why → Type 0
IsNotByContents asked like bytes why = (ArePutAsText asked like bytes × AreNoRecords bytes why) ⊎ ((¬ ArePutAsText asked like bytes) × IsTooLong (length bytes) why)

-- why a host file is not written
abbrev pub IsUnwritten : PutForm → Option (List ℕ) → List ℕ → Why → Type 0
IsUnwritten (form.Said four) like bytes why = AreNotInForm (four ++ replicate 28 0) bytes why
IsUnwritten form.Binary (Some own) bytes why = AreNotInForm own bytes why
IsUnwritten form.Binary None bytes why = IsNotByContents form.Binary None bytes why
IsUnwritten form.Text like bytes why = IsNotByContents form.Text like bytes why
IsUnwritten form.ByContents like bytes why = IsNotByContents form.ByContents like bytes why
