-- The contents of a file, its text or its bytes, and the remark on them.
use Rattle.std.specs.Prelude.{◌≡◌, ℕ, ◌<◌, ◌≤◌, ◌&&◌, ◌||◌, ◌==◌, ◌⊎◌, nat_le, not, Bool, true, false, List, length, slice_index, take, Option, Some, None, MatchBool, if◌then◌else◌}
use Rattle.ods_space.specs.Layout.{VolumeLayout}
use Rattle.ods_space.specs.Files.{IsFile}
use Rattle.ods_space.specs.Faults.{IsChainFault}
use Rattle.ods_space.specs.declared.fault.ChainFault.TheVariants as chain
use Rattle.ods_mount.specs.Sound.{IsSoundBy}
use Rattle.ods_files.specs.Body.{Body, HasBody, bytes_in, are_zeros}
use Rattle.ods_files.specs.declared.form.Form.{Form}
use Rattle.ods_files.specs.declared.form.Form.TheVariants as form
use Rattle.ods_records.specs.Attributes.{end_of, kind_in, text_form_in}
use Rattle.ods_records.specs.Faults.{IsFirstFault}
use Rattle.ods_records.specs.Lines.{longest_of}
use Rattle.ods_records.specs.Records.{Spells, text_of, word_at}
use Rattle.ods_records.specs.Sized.{LinesFrom, without_cr}
use Rattle.ods_records.specs.Survey.{come_as_lines}
use Rattle.ods_records.specs.declared.kind.RecordKind.{RecordKind}
use Rattle.ods_records.specs.declared.kind.TextForm.{TextForm}
use Rattle.ods_records.specs.declared.kind.TextForm.TheVariants as text
use Rattle.ods_shell.specs.declared.form.FormFault.{FormFault}
use Rattle.ods_shell.specs.declared.form.FormFault.TheVariants as fault
use Rattle.ods_shell.specs.declared.form.Remark.{Remark}
use Rattle.ods_shell.specs.declared.form.Remark.TheVariants as remark
use Rattle.ods_records.specs.declared.kind.Wanted.{Wanted}
use Rattle.ods_records.specs.declared.kind.Wanted.TheVariants.{ByKind, Text, Binary, Raw}

-- the kind of the records that are read, if any
abbrev pub kind_got : Wanted → List ℕ → Option RecordKind
kind_got ByKind attributes = kind_in attributes
kind_got Text attributes = kind_in attributes
kind_got Binary attributes = None
kind_got Raw attributes = None

-- the form of the bytes that are read
abbrev pub form_got : Wanted → Form
form_got ByKind = form.Binary
form_got Text = form.Binary
form_got Binary = form.Binary
form_got Raw = form.Raw

-- not all blocks are requested
abbrev pub ends_early : Wanted → Bool
ends_early ByKind = true
ends_early Text = true
ends_early Binary = true
ends_early Raw = false

-- the remark on a file whose end is unknown or may be wrong: its attributes are zeros; or it ends at 0 and has blocks, and not all are requested
abbrev pub end_remark : Wanted → Body → Option Remark
end_remark wanted body =
    if are_zeros body.attributes then Some remark.NoAttributes
    else if ends_early wanted && (end_of body.attributes == 0) && not (length body.blocks == 0) then Some remark.NoEnd
    else None

-- the text of the bytes up to the end
abbrev pub IsTextOf : TextForm → List ℕ → List ℕ → Type 0
IsTextOf (text.Records kind) bytes got = (records : List (List ℕ)) × Spells kind bytes records × (got ≡ text_of records)
IsTextOf (text.Fixed size) bytes got = (lines : List (List ℕ)) × LinesFrom false size bytes 0 lines × (got ≡ text_of lines)
IsTextOf (text.Blocked size) bytes got = (size ≤ 512) × ((lines : List (List ℕ)) × LinesFrom true size bytes 0 lines × (got ≡ text_of lines))
IsTextOf text.Stream bytes got = got ≡ without_cr bytes
IsTextOf text.Bytes bytes got = got ≡ bytes

-- the values of F.RATT for which `--form` has words
abbrev pub has_words : ℕ → Bool
has_words control = (control == 0) || (control == 1) || (control == 2) || (control == 4) || (control == 8) || (control == 9) || (control == 10) || (control == 12)

-- Sequenced records have a header of two bytes, which `--form` cannot specify.
abbrev pub has_known_header : List ℕ → Bool
has_known_header attributes = not (slice_index attributes 0 == 3) || (slice_index attributes 15 == 0) || (slice_index attributes 15 == 2)

-- `put -b --form` stores the bytes of such records again: `--form` has words for F.RTYP, F.RATT and F.RSIZ, the header of the records is known, and
-- no record is longer than F.RSIZ unless that is 0
abbrev pub is_taken_back : List ℕ → ℕ → Bool
is_taken_back attributes longest =
    nat_le (slice_index attributes 0) 4 && has_words (slice_index attributes 1) && has_known_header attributes && nat_le (word_at attributes 2) 32767
    && ((word_at attributes 2 == 0) || nat_le longest (word_at attributes 2))

-- the remark on records whose contents are bytes: it states this, and the form with which `put -b` stores them again, if there is one
abbrev pub bytes_remark : List ℕ → ℕ → Remark
bytes_remark attributes longest = if is_taken_back attributes longest then remark.NoText (take 4 attributes) else remark.NoForm

-- The contents of records when no form is requested: their text, if the lines restore the records. Otherwise they are the bytes, with a remark.
abbrev pub IsChosen : RecordKind → Body → List ℕ → List ℕ → Option Remark → Type 0
IsChosen kind body bytes got said = (records : List (List ℕ)) × Spells kind bytes records
    × (((come_as_lines body.attributes records ≡ true) × (got ≡ text_of records) × (said ≡ end_remark ByKind body))
    ⊎ ((come_as_lines body.attributes records ≡ false) × (got ≡ bytes) × (said ≡ Some (bytes_remark body.attributes (longest_of records)))))

-- if the contents are not a text, they are the bytes
abbrev pub AreBytes : Wanted → Body → List ℕ → Option Remark → Type 0
AreBytes wanted body got said = (bytes_in (form_got wanted) body ≡ Some got) × (said ≡ end_remark wanted body)

-- a file that is read as a stream
abbrev pub is_stream : TextForm → Bool
is_stream (text.Records kind) = false
is_stream (text.Fixed size) = false
is_stream (text.Blocked size) = false
is_stream text.Stream = true
is_stream text.Bytes = false

-- a stream of lines: F.RTYP 4, and F.RATT 2, an implied carriage return
abbrev pub is_line_stream : List ℕ → Bool
is_line_stream attributes = is_stream (text_form_in attributes) && (slice_index attributes 1 == 2)

-- the lines of a stream
abbrev pub AreStreamLines : Body → List ℕ → Option Remark → Type 0
AreStreamLines body got said = (bytes : List ℕ) × (bytes_in form.Binary body ≡ Some bytes) × (got ≡ without_cr bytes) × (said ≡ end_remark ByKind body)

-- the contents when no form is requested: for records as above, for a stream of lines its lines, for any other file its bytes
abbrev pub IsGotAlone : Option RecordKind → Body → List ℕ → Option Remark → Type 0
IsGotAlone None body got said = MatchBool (is_line_stream body.attributes) (AreStreamLines body got said) (AreBytes ByKind body got said)
IsGotAlone (Some kind) body got said = (bytes : List ℕ) × (bytes_in form.Binary body ≡ Some bytes) × IsChosen kind body bytes got said

-- the contents of a file with this body in the requested form, and the remark on them
abbrev pub IsGotBy : Wanted → Body → List ℕ → Option Remark → Type 0
IsGotBy ByKind body got said = IsGotAlone (kind_in body.attributes) body got said
IsGotBy Text body got said = (bytes : List ℕ) × (bytes_in form.Binary body ≡ Some bytes) × IsTextOf (text_form_in body.attributes) bytes got × (said ≡ end_remark Text body)
IsGotBy Binary body got said = AreBytes Binary body got said
IsGotBy Raw body got said = AreBytes Raw body got said

-- these are the contents of file n in the requested form, with this remark
abbrev pub IsGot : List (List ℕ) → VolumeLayout → ℕ → Wanted → List ℕ → Option Remark → Type 0
IsGot I L n wanted got said = (body : Body) × HasBody I L n body × IsGotBy wanted body got said

-- the reason why bytes with these attributes have no text: the first fault of their records, or fixed-length records that are longer than their
-- block
abbrev pub HasNoText : List ℕ → List ℕ → FormFault → Type 0
HasNoText attributes bytes fault.NoSuchFile = ⊥
HasNoText attributes bytes fault.BadChain = ⊥
HasNoText attributes bytes (fault.OutsideVolume lbn) = ⊥
HasNoText attributes bytes fault.EndPastBlocks = ⊥
HasNoText attributes bytes (fault.Records f) = (kind : RecordKind) × (kind_in attributes ≡ Some kind) × IsFirstFault kind bytes f
HasNoText attributes bytes (fault.TooLongForBlock size) = (text_form_in attributes ≡ text.Blocked size) × (512 < size)
HasNoText attributes bytes fault.NoMemory = Unit {0}

-- The reason why the contents of a file with this body are refused: its end is past its blocks, and not all are requested; or its records are read
-- and have a fault. Out of memory can occur at any time.
abbrev pub IsNotGotBy : Wanted → Body → FormFault → Type 0
IsNotGotBy wanted body fault.NoSuchFile = ⊥
IsNotGotBy wanted body fault.BadChain = ⊥
IsNotGotBy wanted body (fault.OutsideVolume lbn) = ⊥
IsNotGotBy wanted body fault.EndPastBlocks = bytes_in (form_got wanted) body ≡ None
IsNotGotBy wanted body (fault.Records f) = (kind : RecordKind) × (kind_got wanted body.attributes ≡ Some kind) × ((bytes : List ℕ) × (bytes_in form.Binary body ≡ Some bytes) × IsFirstFault kind bytes f)
IsNotGotBy wanted body (fault.TooLongForBlock size) = (wanted ≡ Text) × (text_form_in body.attributes ≡ text.Blocked size) × (512 < size)
IsNotGotBy wanted body fault.NoMemory = Unit {0}

-- The reason why the contents of file n are refused: it is not a file; its chain is not whole; or it is not available in this form.
abbrev pub IsNotGot : List (List ℕ) → VolumeLayout → ℕ → Wanted → FormFault → Type 0
IsNotGot I L n wanted fault.NoSuchFile = ¬ IsFile I L n
IsNotGot I L n wanted fault.BadChain = IsFile I L n × IsChainFault I L n chain.BadChain
IsNotGot I L n wanted (fault.OutsideVolume lbn) = IsFile I L n × IsChainFault I L n (chain.OutsideVolume lbn)
IsNotGot I L n wanted fault.EndPastBlocks = (body : Body) × HasBody I L n body × IsNotGotBy wanted body fault.EndPastBlocks
IsNotGot I L n wanted (fault.Records f) = (body : Body) × HasBody I L n body × IsNotGotBy wanted body (fault.Records f)
IsNotGot I L n wanted (fault.TooLongForBlock size) = (body : Body) × HasBody I L n body × IsNotGotBy wanted body (fault.TooLongForBlock size)
IsNotGot I L n wanted fault.NoMemory = Unit {0}

-- On a sound image no file is refused because of its chain.
abbrev pub SoundChainsAreGot : Type 0
SoundChainsAreGot = (I : List (List ℕ)) (L : VolumeLayout) (n lbn : ℕ) (wanted : Wanted) → IsSoundBy I L → (¬ IsNotGot I L n wanted fault.BadChain) × ¬ IsNotGot I L n wanted (fault.OutsideVolume lbn)
