-- The lines of `stat`.
use Rattle.std.specs.Prelude.{ℕ, zero, suc, ◌+◌, ◌-◌, ◌/◌, ◌%◌, ◌&&◌, ◌||◌, ◌==◌, not, Bool, if◌then◌else◌, List, [], ◌∷◌, ◌++◌, codes, length, slice_index}
use Rattle.std.specs.List.{flat_map, range_with_len}
use Rattle.std.specs.Fmt.{decimal}
use Rattle.ods_base.specs.Block.{byte, word}
use Rattle.ods_base.specs.declared.file_id.FileId.{FileId}
use Rattle.ods_base.specs.declared.file_id.Uic.{Uic}
use Rattle.ods_files.specs.Body.{are_zeros}
use Rattle.ods_header.specs.Text.{file_id_text, ident_text}
use Rattle.ods_shell.specs.Facts.{created_in, kind_word, revised_in, revision_in}
use Rattle.ods_shell.specs.Texts.{shown_date, shown_rights, shown_user}
use Rattle.ods_shell.specs.declared.facts.Condition.{Condition}
use Rattle.ods_shell.specs.declared.facts.Condition.TheVariants.{Whole, Broken, Outside}
use Rattle.ods_shell.specs.declared.facts.Facts.{Facts}
use Rattle.ods_shell.specs.declared.facts.Kind.{Kind}

-- the text if the condition holds, otherwise nothing
unfoldable pub text_if : Bool → List ℕ → List ℕ
text_if holds text = if holds then text else []

-- the line of the date of creation
unfoldable pub created_line : List ℕ → List ℕ
created_line ident = codes "Created: " ++ shown_date (created_in ident) ++ 10 ∷ []

-- the line of the last revision: its date, and the number of revisions
unfoldable pub revised_line : List ℕ → List ℕ
revised_line ident = codes "Revised: " ++ shown_date (revised_in ident) ++ codes ", revision " ++ decimal (revision_in ident) ++ 10 ∷ []

-- the dates of an ident area
abbrev pub dates_text : List ℕ → List ℕ
dates_text ident = created_line ident ++ revised_line ident

-- the word for F.RTYP
unfoldable pub record_type_word : ℕ → List ℕ
record_type_word kind =
    if kind % 16 == 1 then codes "fixed"
    else if kind % 16 == 2 then codes "variable"
    else if kind % 16 == 3 then codes "sequenced"
    else if kind % 16 == 4 then codes "stream"
    else if kind % 16 == 5 then codes "stream of LF"
    else if kind % 16 == 6 then codes "stream of CR"
    else codes "undefined"

-- the words for the three lowest bits of F.RATT
unfoldable pub carriage_words : ℕ → List ℕ
carriage_words control =
    if control % 2 == 1 then codes "FORTRAN carriage control"
    else if control / 2 % 2 == 1 then codes "implied carriage return"
    else if control / 4 % 2 == 1 then codes "print file"
    else codes "no carriage control"

-- the line of these words for records, and of their size
unfoldable pub said_line : List ℕ → List ℕ → List ℕ → ℕ → List ℕ
said_line kind control blocks size = codes "Records: " ++ kind ++ codes ", " ++ control ++ blocks ++ codes ", size " ++ decimal size ++ 10 ∷ []

-- the record attributes in words: F.RTYP, F.RATT and F.RSIZ
abbrev pub records_text : List ℕ → List ℕ
records_text attributes =
    if are_zeros attributes then codes "Records: nothing is said" ++ 10 ∷ []
    else said_line (record_type_word (byte attributes 0)) (carriage_words (byte attributes 1)) (text_if (byte attributes 1 / 8 % 2 == 1) (codes ", within blocks")) (word attributes 1)

-- the word for bit 7 of the user's characteristics
unfoldable pub contiguous_word : ℕ → List ℕ
contiguous_word user = text_if (user / 128 % 2 == 1) (codes " contiguous")

-- the word for bit 6 of the user's characteristics
unfoldable pub locked_word : ℕ → List ℕ
locked_word user = text_if (user / 64 % 2 == 1) (codes " locked")

-- the words for bits 7 and 6 of the user's characteristics
unfoldable pub user_words : ℕ → List ℕ
user_words user = contiguous_word user ++ locked_word user

-- the words for bits 7 and 6 of the system's characteristics
unfoldable pub system_words : ℕ → List ℕ
system_words system = text_if (system / 128 % 2 == 1) (codes " marked for deletion") ++ text_if (system / 64 % 2 == 1) (codes " bad data")

-- the word if none of these four bits is set
unfoldable pub no_words : ℕ → ℕ → List ℕ
no_words user system = text_if ((user / 64 == 0) && (system / 64 == 0)) (codes " none")

-- the text before the characteristics
unfoldable pub characteristics_label : List ℕ
characteristics_label = codes "Characteristics:"

-- the characteristics in words
abbrev pub characteristics_text : ℕ → ℕ → List ℕ
characteristics_text user system = characteristics_label ++ user_words user ++ system_words system ++ no_words user system ++ 10 ∷ []

-- the next block does not follow this one in the image, or there is none
abbrev pub is_run_end : List ℕ → ℕ → Bool
is_run_end lbns at = (at + 1 == length lbns) || not (slice_index lbns at + 1 == slice_index lbns (at + 1))

-- the index of the first block of the run that contains this block
abbrev pub run_start : List ℕ → ℕ → ℕ
run_start lbns zero = 0
run_start lbns (suc at) = if is_run_end lbns at then suc at else run_start lbns at

-- a run of blocks from index `from` to index `at`: its VBNs, counted from 1, and its LBNs
abbrev pub run_line : List ℕ → ℕ → ℕ → List ℕ
run_line lbns from at =
    codes "Run: VBN " ++ decimal (from + 1) ++ codes " to " ++ decimal (at + 1) ++ codes " at LBN " ++ decimal (slice_index lbns at - (at - from)) ++ codes " to " ++ decimal (slice_index lbns at) ++ 10 ∷ []

-- the line of the run that ends with this block, if one does
abbrev pub run_text : List ℕ → ℕ → List ℕ
run_text lbns at = text_if (is_run_end lbns at) (run_line lbns (run_start lbns at) at)

-- the runs, in order
abbrev pub runs_text : List ℕ → List ℕ
runs_text lbns = flat_map (run_text lbns) (range_with_len 0 (length lbns))

-- the line of the path of a file
unfoldable pub path_line : List ℕ → List ℕ
path_line path = codes "Path: " ++ path ++ 10 ∷ []

-- the line of its ID
unfoldable pub id_line : FileId → List ℕ
id_line file = codes "ID: " ++ file_id_text file ++ 10 ∷ []

-- the line of the name in its header
unfoldable pub header_name_line : List ℕ → List ℕ
header_name_line ident = codes "Name in header: " ++ ident_text ident ++ 10 ∷ []

-- the line of its kind
unfoldable pub kind_line : Kind → List ℕ
kind_line kind = codes "Kind: " ++ kind_word kind ++ 10 ∷ []

-- the line of its condition, unless it is whole
unfoldable pub condition_line : Condition → List ℕ
condition_line Whole = []
condition_line Broken = codes "Chain: broken" ++ 10 ∷ []
condition_line Outside = codes "Chain: outside" ++ 10 ∷ []

-- the line of its number of blocks
unfoldable pub blocks_line : ℕ → List ℕ
blocks_line blocks = codes "Blocks: " ++ decimal blocks ++ 10 ∷ []

-- the line of its number of bytes
unfoldable pub bytes_line : ℕ → List ℕ
bytes_line bytes = codes "Bytes: " ++ decimal bytes ++ 10 ∷ []

-- the line of its owner
unfoldable pub owner_line : Uic → List ℕ
owner_line owner = codes "Owner: " ++ shown_user owner ++ 10 ∷ []

-- the text before its protection
unfoldable pub protection_label : List ℕ
protection_label = codes "Protection: "

-- the line of its protection
unfoldable pub protection_line : ℕ → List ℕ
protection_line protection = protection_label ++ shown_rights protection ++ 10 ∷ []

-- the path of a file, its ID, the name in its header, its kind, and its condition
abbrev pub head_text : List ℕ → Facts → List ℕ
head_text path facts = path_line path ++ id_line facts.file ++ header_name_line facts.ident ++ kind_line facts.kind ++ condition_line facts.condition

-- the size of a file, its owner, and its protection
abbrev pub size_text : Facts → List ℕ
size_text facts = blocks_line facts.blocks ++ bytes_line facts.bytes ++ owner_line facts.owner ++ protection_line facts.protection

-- all lines: one field per line, and the runs of the blocks
abbrev pub stat_text : List ℕ → Facts → List ℕ → List ℕ
stat_text path facts lbns =
    head_text path facts ++ size_text facts ++ dates_text facts.ident ++ records_text facts.attributes ++ characteristics_text facts.user_char facts.system_char ++ runs_text lbns
