-- The lines and the JSON objects of `find --deleted`.
use Rattle.std.specs.Prelude.{ℕ, ◌==◌, Bool, if◌then◌else◌, List, [], ◌∷◌, ◌++◌, codes, Option, Some, None}
use Rattle.std.specs.Fmt.{decimal}
use Rattle.std.specs.List.{flat_map}
use Rattle.ods_base.specs.declared.file_id.FileId.{FileId}
use Rattle.ods_header.specs.Text.{file_id_text, ident_text}
use Rattle.serde_json.specs.Data.{Members}
use Rattle.ods_shell.specs.Facts.{created_in}
use Rattle.ods_shell.specs.Json.{object_line, of_image, with_number, with_text}
use Rattle.ods_shell.specs.Lines.{column, size_columns}
use Rattle.ods_shell.specs.Texts.{shown_date, shown_id}
use Rattle.ods_shell.specs.declared.deleted.Deletion.{Deletion}

-- a count, and the total
unfoldable pub count_text : ℕ → ℕ → List ℕ
count_text count all = decimal count ++ codes " of " ++ decimal all

-- the text after the number of blocks that are used again
unfoldable pub used_label : List ℕ
used_label = codes " blocks used again"

-- the number of the blocks of a deleted file that are used again
abbrev pub used_text : ℕ → ℕ → List ℕ
used_text used blocks = codes "  " ++ count_text used blocks ++ used_label

-- the same, if there are any
abbrev pub used_part : ℕ → ℕ → List ℕ
used_part used blocks = if used == 0 then [] else used_text used blocks

-- the first missing header, if there is one
abbrev pub cut_part : Option ℕ → List ℕ
cut_part None = []
cut_part (Some header) = codes "  cut at header " ++ decimal header

-- the text before a deleted file that shares blocks
unfoldable pub shared_label : List ℕ
shared_label = codes "  shares blocks with "

-- the deleted file that shares blocks with it, if there is one
abbrev pub shared_part : Option FileId → List ℕ
shared_part None = []
shared_part (Some file) = shared_label ++ shown_id file

-- whether a deleted file is whole, and otherwise all reasons
abbrev pub state_part : Deletion → List ℕ
state_part d = if d.whole then codes "  whole" else used_part d.used d.blocks ++ cut_part d.missing ++ shared_part d.sharer

-- the ID and the name of a deleted file, in columns
unfoldable pub name_columns : Deletion → List ℕ
name_columns d = column 12 (shown_id d.file) ++ codes "  " ++ column 19 (ident_text d.ident)

-- the date of creation in an ident area, in a column
unfoldable pub date_column : List ℕ → List ℕ
date_column ident = column 18 (shown_date (created_in ident))

-- its line: the ID and the name; or with `long` these in columns, its blocks, bytes and date of creation, and its state
abbrev pub deletion_line : Bool → Deletion → List ℕ
deletion_line long d =
    if long then name_columns d ++ size_columns d.blocks d.bytes ++ date_column d.ident ++ state_part d ++ 10 ∷ []
    else shown_id d.file ++ codes "  " ++ ident_text d.ident ++ 10 ∷ []

-- the members, and the first missing header, if there is one
abbrev pub with_missing : Option ℕ → Members → Members
with_missing None ms = ms
with_missing (Some header) ms = with_number (codes "missing_header") header ms

-- the members, and the deleted file that shares blocks, if there is one
abbrev pub with_sharer : Option FileId → Members → Members
with_sharer None ms = ms
with_sharer (Some file) ms = with_text (codes "shares_blocks_with") (file_id_text file) ms

-- whether a deleted file is whole, in words
abbrev pub state_word : Bool → List ℕ
state_word whole = if whole then codes "whole" else codes "not whole"

-- the members for the facts of a deleted file
abbrev pub deletion_members : List ℕ → Deletion → Members
deletion_members image d =
    with_sharer d.sharer (with_missing d.missing (with_number (codes "used_again") d.used (with_text (codes "state") (state_word d.whole)
    (with_text (codes "created") (shown_date (created_in d.ident)) (with_number (codes "bytes") d.bytes (with_number (codes "blocks") d.blocks
    (with_text (codes "name") (ident_text d.ident) (with_text (codes "id") (file_id_text d.file) (of_image image)))))))))

-- their lines
abbrev pub deletion_lines : Bool → List Deletion → List ℕ
deletion_lines long all = flat_map (deletion_line long) all

-- their objects
abbrev pub deletion_objects : List ℕ → List Deletion → List ℕ
deletion_objects image all = flat_map (λ d. object_line (deletion_members image d)) all
