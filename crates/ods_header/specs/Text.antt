-- The texts of an ident and of a header.
use Rattle.std.specs.Prelude.{ℕ, zero, suc, ◌+◌, ◌/◌, ◌%◌, false, List, [], ◌∷◌, ◌++◌, codes}
use Rattle.std.specs.List.{flat_map}
use Rattle.std.specs.Fmt.{decimal, radix_digits}
use Rattle.ods_base.specs.Block.{word}
use Rattle.ods_base.specs.Name.{name_version_text}
use Rattle.ods_header.specs.declared.header.Run.{Run}
use Rattle.ods_base.specs.declared.file_id.FileId.{FileId}
use Rattle.ods_base.specs.declared.file_id.Uic.{Uic}
use Rattle.ods_header.specs.declared.header.Header.{Header}

-- a number of octal digits of the given width, with leading zeros
abbrev pub octal_digits : ℕ → ℕ → List ℕ
octal_digits zero n = []
octal_digits (suc width) n = octal_digits width (n / 8) ++ (48 + n % 8) ∷ []

-- a number in octal, without leading zeros
abbrev pub octal : ℕ → List ℕ
octal n = radix_digits 8 false n

-- the name and the version of an ident
abbrev pub ident_text : List ℕ → List ℕ
ident_text ident = name_version_text (record { words = word ident 0 ∷ word ident 1 ∷ word ident 2 ∷ []; ext = word ident 3 }) (word ident 4)

-- n,s
abbrev pub file_id_text : FileId → List ℕ
file_id_text id = decimal id.number ++ 44 ∷ decimal id.sequence

-- a space and LBN+COUNT
abbrev pub run_text : Run → List ℕ
run_text r = 32 ∷ decimal r.lbn ++ 43 ∷ decimal r.count

-- HEADER n,s NAME;V
abbrev pub name_part : Header → List ℕ
name_part h = codes "HEADER " ++ file_id_text h.file ++ 32 ∷ ident_text h.ident

-- an owner, a protection word of six digits, and both bytes of characteristics of three digits: [g,m] pppppp uuu,ccc
abbrev pub owner_text : Uic → ℕ → ℕ → ℕ → List ℕ
owner_text owner protection user system =
    codes " [" ++ octal owner.group ++ 44 ∷ octal owner.member ++ codes "] " ++ octal_digits 6 protection
    ++ 32 ∷ octal_digits 3 user ++ 44 ∷ octal_digits 3 system

-- the owner, protection and characteristics of a header
abbrev pub owner_part : Header → List ℕ
owner_part h = owner_text h.owner h.protection h.user_char h.system_char

-- segment e next n,s runs
abbrev pub segment_part : Header → List ℕ
segment_part h = codes " segment " ++ decimal h.segment ++ codes " next " ++ file_id_text h.next ++ codes " runs"

-- HEADER n,s NAME;V [g,m] pppppp uuu,ccc segment e next n,s runs, and the pointers in order
abbrev pub header_text : Header → List ℕ
header_text h = name_part h ++ owner_part h ++ segment_part h ++ flat_map run_text h.pointers.items
