-- The 32 bytes of attributes of a file (the standard's FCS file attributes): the kind of its records, and its end.
use Rattle.std.specs.Prelude.{ℕ, ◌<◌, ◌+◌, ◌-◌, ◌*◌, ◌/◌, ◌%◌, List, [], ◌∷◌, ◌++◌, take, drop, replicate, slice_index, Option, Some, None, Bool, not, ◌&&◌, nat_le, ◌==◌, if◌then◌else◌}
use Rattle.ods_records.specs.declared.kind.RecordKind.{RecordKind}
use Rattle.ods_records.specs.declared.kind.RecordKind.TheVariants.{Variable, Sequenced}
use Rattle.ods_records.specs.declared.kind.TextForm.{TextForm}
use Rattle.ods_records.specs.declared.kind.TextForm.TheVariants.{Records, Fixed, Blocked, Stream, Bytes}
use Rattle.ods_records.specs.Records.{word_at}

-- a word, low byte first
abbrev pub word : ℕ → List ℕ
word w = w % 256 ∷ w / 256 ∷ []

-- a block number, high word first
abbrev pub block : ℕ → List ℕ
block n = word (n / 65536) ++ word (n % 65536)

-- F.RTYP, F.RATT and F.RSIZ as given; F.HIBK, the number of blocks for the length; F.EFBK and F.FFBY, the block and the byte in it at the end of
-- file; zeros
abbrev pub attributes : ℕ → ℕ → ℕ → ℕ → List ℕ
attributes rtyp ratt rsiz length =
    rtyp ∷ ratt ∷ (word rsiz ++ (block ((length + 511) / 512) ++ (block (length / 512 + 1) ++ (word (length % 512) ++ replicate 18 0))))

-- F.EFBK
abbrev pub end_block : List ℕ → ℕ
end_block bytes = 65536 * word_at bytes 8 + word_at bytes 10

-- The end of file in bytes: byte F.FFBY of block F.EFBK, counted from 1, or 0 if F.EFBK is 0.
abbrev pub end_of : List ℕ → ℕ
end_of bytes = if end_block bytes == 0 then 0 else (end_block bytes - 1) * 512 + word_at bytes 12

-- F.RTYP, the low four bits of byte 0; 0 and the values above 6 are read as 1
abbrev pub record_type : List ℕ → ℕ
record_type bytes = if slice_index bytes 0 % 16 == 0 then 1 else if nat_le 7 (slice_index bytes 0 % 16) then 1 else slice_index bytes 0 % 16

-- records are lines by F.RATT: FORTRAN carriage control (1), an implied carriage return (2) or print control (4)
abbrev pub is_controlled : List ℕ → Bool
is_controlled bytes = not (slice_index bytes 1 % 8 == 0)

-- no record crosses the end of a block, by F.RATT (10 octal)
abbrev pub is_blocked : List ℕ → Bool
is_blocked bytes = slice_index bytes 1 / 8 % 2 == 1

-- the size of the header of a sequenced record in bytes: byte 15, or 2 if that is 0
abbrev pub header_size : List ℕ → ℕ
header_size bytes = if slice_index bytes 15 == 0 then 2 else slice_index bytes 15

-- The kind of the records: 2 and 3 are records with a length. 1, records of one size, has none, and the others are streams.
abbrev pub kind_in : List ℕ → Option RecordKind
kind_in bytes = if record_type bytes == 2 then Some Variable else if record_type bytes == 3 then Some (Sequenced (header_size bytes)) else None

-- Records of one size that are lines: F.RTYP 1 with carriage control and F.RSIZ from 1.
abbrev pub has_cards : List ℕ → Bool
has_cards bytes = (record_type bytes == 1) && is_controlled bytes && not (word_at bytes 2 == 0)

-- the way to read the bytes up to the end as a text
abbrev pub text_form_in : List ℕ → TextForm
text_form_in bytes =
    if record_type bytes == 2 then Records Variable
    else if record_type bytes == 3 then Records (Sequenced (header_size bytes))
    else if record_type bytes == 4 then Stream
    else if has_cards bytes then (if is_blocked bytes then Blocked (word_at bytes 2) else Fixed (word_at bytes 2))
    else Bytes

-- records of one size have at least one byte
abbrev pub IsSized : TextForm → Type 0
IsSized (Fixed size) = 0 < size
IsSized (Blocked size) = 0 < size
IsSized (Records kind) = Unit {0}
IsSized Stream = Unit {0}
IsSized Bytes = Unit {0}

-- the attributes with F.HIBK, F.EFBK and F.FFBY of a file of this many bytes, and all else unchanged
abbrev pub ending_at : List ℕ → ℕ → List ℕ
ending_at own bytes = take 4 own ++ take 10 (drop 4 (attributes 1 0 512 bytes)) ++ drop 14 own
