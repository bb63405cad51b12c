-- The printable texts of IDs, users, protection words, dates and directories.
use Rattle.std.specs.Prelude.{ℕ, ◌+◌, ◌*◌, ◌-◌, ◌/◌, ◌%◌, ◌&&◌, ◌==◌, nat_le, nat_lt, Bool, if◌then◌else◌, List, [], ◌∷◌, ◌++◌, map, take, drop, length, codes, slice_index, slice_range}
use Rattle.std.specs.List.{flat_map, list_all}
use Rattle.ods_base.specs.Name.{RadName, title, name_version_text}
use Rattle.ods_base.specs.declared.file_id.FileId.{FileId}
use Rattle.ods_base.specs.declared.file_id.Uic.{Uic}
use Rattle.ods_base.specs.declared.listed.Listed.{Listed}
use Rattle.ods_files.specs.Body.{are_zeros}
use Rattle.ods_header.specs.Text.{octal, file_id_text}

-- a file ID as in a path: #n,s
abbrev pub shown_id : FileId → List ℕ
shown_id file = 35 ∷ file_id_text file

-- a user: [g,m], both in octal
unfoldable pub shown_user : Uic → List ℕ
shown_user user = 91 ∷ octal user.group ++ 44 ∷ octal user.member ++ 93 ∷ []

-- the letter of a right, if its bit is clear
abbrev pub right_letter : ℕ → ℕ → List ℕ
right_letter bit letter = if bit == 0 then letter ∷ [] else []

-- the rights R, W, E and D whose bits are clear
unfoldable pub class_rights : ℕ → List ℕ
class_rights denied = right_letter (denied % 2) 82 ++ right_letter (denied / 2 % 2) 87 ++ right_letter (denied / 4 % 2) 69 ++ right_letter (denied / 8 % 2) 68

-- a protection word: the rights of the system, the owner, the group and the world
unfoldable pub shown_rights : ℕ → List ℕ
shown_rights p = 91 ∷ class_rights (p % 16) ++ 44 ∷ class_rights (p / 16 % 16) ++ 44 ∷ class_rights (p / 256 % 16) ++ 44 ∷ class_rights (p / 4096) ++ 93 ∷ []

-- a byte as a character, `?` if it is not printable
abbrev pub shown_byte : ℕ → ℕ
shown_byte b = if nat_le 32 b && nat_lt b 127 then b else 63

-- these bytes of a date
abbrev pub date_part : List ℕ → ℕ → ℕ → List ℕ
date_part date from to = map shown_byte (slice_range date from to)

-- the 13 bytes of a date, 01JAN80103000, as 01-JAN-80 10:30:00; `-` if they are zeros
unfoldable pub shown_date : List ℕ → List ℕ
shown_date date =
    if are_zeros date then codes "-"
    else date_part date 0 2 ++ 45 ∷ date_part date 2 5 ++ 45 ∷ date_part date 5 7 ++ 32 ∷ date_part date 7 9 ++ 58 ∷ date_part date 9 11 ++ 58 ∷ date_part date 11 13

-- the title of a name after a dot
abbrev pub dotted : RadName → List ℕ
dotted name = 46 ∷ title name

-- g,m in octal; a directory 000000 that is not the master directory has a text that is not a valid path
abbrev pub shown_numbers : ℕ → ℕ → List ℕ
shown_numbers group member = if (group == 0) && (member == 0) then codes "0,0.000000" else octal group ++ 44 ∷ octal member

-- the number that three octal digits spell
abbrev pub octal_of : List ℕ → ℕ
octal_of text = (slice_index text 0 - 48) * 64 + (slice_index text 1 - 48) * 8 + (slice_index text 2 - 48)

-- octal digits that spell at most 377
abbrev pub is_octal : List ℕ → Bool
is_octal text = list_all (λ c. nat_le 48 c && nat_le c 55) text && nat_le (octal_of text) 255

-- three octal digits of a group, and three of a member
abbrev pub is_numbered : List ℕ → Bool
is_numbered name = (length name == 6) && is_octal (take 3 name) && is_octal (drop 3 name)

-- a directory in the master directory as in a path: by group and member if its name consists of them, otherwise by its name
unfoldable pub shown_one : List ℕ → List ℕ
shown_one name = if is_numbered name then shown_numbers (octal_of (take 3 name)) (octal_of (drop 3 name)) else name

-- the text between the brackets for a directory with these names: 0,0 for the master directory, one name, or names with dots between them
abbrev pub shown_inner : List RadName → List ℕ
shown_inner [] = codes "0,0"
shown_inner (name ∷ names) = if length names == 0 then shown_one (title name) else title name ++ flat_map dotted names

-- a directory as in a path
abbrev pub shown_directory : List RadName → List ℕ
shown_directory names = 91 ∷ shown_inner names ++ 93 ∷ []

-- the path of an entry of the directory with these names
abbrev pub shown_path : List RadName → Listed → List ℕ
shown_path names entry = shown_directory names ++ name_version_text entry.name entry.version
