-- The contents of a file of an image that may be refused.
use Rattle.std.specs.Prelude.{◌≡◌, ◌≢◌, ℕ, ◌⊎◌, Bool, true, false, List, string_bytes, Some, None, is_some, if◌then◌else◌}
use Rattle.ods_header.specs.Header.{ident_of, is_directory_header}
use Rattle.ods_header.specs.Text.{ident_text}
use Rattle.ods_space.specs.Layout.{VolumeLayout, header_at}
use Rattle.ods_space.specs.Files.{IsFile}
use Rattle.ods_space.specs.Faults.{IsChainFault}
use Rattle.ods_space.specs.declared.fault.ChainFault.TheVariants as chain
use Rattle.ods_files.specs.Body.{Body as Held, HasBody, HasPart, bytes_in, size_in}
use Rattle.ods_files.specs.declared.form.Form.TheVariants.{Binary, Raw}
use Rattle.ods_records.specs.Attributes.{text_form_in}
use Rattle.ods_records.specs.declared.kind.TextForm.TheVariants as text
use Rattle.ods_shell.specs.Contents.{HasNoText, IsTextOf}
use Rattle.ods_shell.specs.declared.form.Contents.{Contents}
use Rattle.ods_shell.specs.declared.form.Contents.TheVariants.{Lines, Body}
use Rattle.ods_shell.specs.Named.{id_of}
use Rattle.ods_shell.specs.declared.rescued.Rescued.{Rescued}
use Rattle.ods_shell.specs.declared.rescued.Rescued.TheVariants as rescued
use Rattle.ods_shell.specs.declared.rescued.RescuedPart.{RescuedPart}
use Rattle.ods_shell.specs.declared.form.FormFault.{FormFault}
use Rattle.ods_shell.specs.declared.form.FormFault.TheVariants.{NoMemory}

-- this is the text of the bytes up to the end of file
abbrev pub HasText : Held → List ℕ → Type 0
HasText body got = (bytes : List ℕ) × (bytes_in Binary body ≡ Some bytes) × IsTextOf (text_form_in body.attributes) bytes got

-- The file has no text: its end is past its blocks, its text is its bytes, or its records have a fault.
abbrev pub LacksText : Held → Type 0
LacksText body = (bytes_in Binary body ≡ None) ⊎ (text_form_in body.attributes ≡ text.Bytes)
    ⊎ ((bytes : List ℕ) × (fault : FormFault) × (bytes_in Binary body ≡ Some bytes) × (fault ≢ NoMemory) × HasNoText body.attributes bytes fault)

-- The kept contents of a file with this body: with `wanted`, its text if it has one. Otherwise its bytes up to the end of file, or in all blocks if
-- the end is past them.
abbrev pub IsKept : Bool → Held → Contents → Type 0
IsKept wanted body (Lines kept) = (wanted ≡ true) × HasText body kept.items
IsKept wanted body (Body kept form) = (wanted ≡ true → LacksText body) × (kept ≡ body) × (form ≡ (if is_some (size_in Binary body) then Binary else Raw))

-- file n exists, and is not a directory
pub record IsPlain (I : List (List ℕ)) (L : VolumeLayout) (n : ℕ) : Type 0 where
  pub file : IsFile I L n
  pub plain : is_directory_header n (header_at I L n) ≡ false

-- The contents for number n: nothing if it is not a file, or is a directory; the reason why its chain is not whole; or the name in its header, and
-- the kept contents.
abbrev pub IsRescued : List (List ℕ) → VolumeLayout → ℕ → Bool → Rescued → Type 0
IsRescued I L n wanted rescued.Nothing = ¬ IsPlain I L n
IsRescued I L n wanted (rescued.Broken file fault) = IsPlain I L n × (file ≡ id_of I L n) × IsChainFault I L n fault × (fault ≢ chain.NoMemory)
IsRescued I L n wanted (rescued.Whole file name kept) =
    IsPlain I L n × (file ≡ id_of I L n) × (string_bytes name ≡ ident_text (ident_of (header_at I L n))) × (body : Held) × HasBody I L n body × IsKept wanted body kept

-- The present part of file n: the name in its header, and the kept contents of the blocks whose headers are present.
pub record IsRescuedPart (I : List (List ℕ)) (L : VolumeLayout) (n : ℕ) (wanted : Bool) (part : RescuedPart) : Type 0 where
  pub file : IsFile I L n
  pub name : string_bytes part.name ≡ ident_text (ident_of (header_at I L n))
  pub body : Held
  pub whole : Bool
  pub there : HasPart I L n body whole
  pub kept : IsKept wanted body part.contents
