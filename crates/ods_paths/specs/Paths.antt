-- The meaning of the text of a path.
use Rattle.std.specs.Prelude.{◌≡◌, ◌≢◌, ℕ, ◌-◌, ◌<◌, ◌==◌, ◌||◌, ◌&&◌, not, nat_le, Bool, true, false, List, [], ◌∷◌, length, take, drop, map, codes, slice_index, nat_eq, if◌then◌else◌, Option, Some, None, ◌⊎◌}
use Rattle.std.specs.List.{All, position_or_len, before_first, after_first, before_last, after_last, list_all, list_any, ends_with}
use Rattle.ods_base.specs.declared.file_id.FileId.{FileId}
use Rattle.ods_paths.specs.declared.versions.Versions.{Versions}
use Rattle.ods_text.specs.Cuts.{is, Has, Lacks, cut_of}
use Rattle.ods_paths.specs.Numbers.{IsId, IsVersion, is_octal_digit}
use Rattle.ods_paths.specs.Patterns.{IsPattern, has_wildcard, capitals}
use Rattle.ods_paths.specs.Steps.{Step, IsStep, step_of, steps_text, unless_empty, step_texts}

-- the steps from the master directory, and whether all directories below belong to the folder. No step selects the master directory itself.
pub record Folder : Type 0 where
  pub steps : List Step
  pub below : Bool

-- the patterns of a name and of its type, and the versions, if the path specifies them
pub record Files : Type 0 where
  pub name : List ℕ
  pub kind : List ℕ
  pub versions : Option Versions

-- a file by its ID; or a directory, and the files in it, if the path specifies them
pub data Said : Type 0 where
  File : FileId → Said
  Within : Folder → Option Files → Said

-- `;`, or `:` for shells in which `;` has a meaning
abbrev pub begins_version : ℕ → Bool
begins_version c = c == 59 || c == 58

-- The text of files is NAME.TYP;V. The name is before the first `.`, the type is after it, and the version begins at `;`.
abbrev pub full_name : List ℕ → List ℕ
full_name text = before_first begins_version text

abbrev pub name_text : List ℕ → List ℕ
name_text text = before_first (is 46) (full_name text)

abbrev pub kind_in : Option (List ℕ × List ℕ) → List ℕ
kind_in None = codes "*"
kind_in (Some parts) = parts.1

-- a text without a `.` has any type
abbrev pub kind_text : List ℕ → List ℕ
kind_text text = kind_in (cut_of 46 (full_name text))

-- the text has a `;` with these versions after it; or it has none
abbrev pub IsVersions : List ℕ → Option Versions → Type 0
IsVersions text None = position_or_len begins_version text ≡ length text
IsVersions text (Some v) = (position_or_len begins_version text < length text) × IsVersion (after_first begins_version text) v

-- A pattern may have no `.`. Any other name has one.
abbrev pub IsDotted : List ℕ → Type 0
IsDotted text = Has 46 (full_name text) ⊎ (has_wildcard (full_name text) ≡ true)

-- the text spells these files
pub record SpellsFiles (text : List ℕ) (f : Files) : Type 0 where
  pub name_pattern : IsPattern 9 (name_text text)
  pub kind_pattern : IsPattern 3 (kind_text text)
  pub dotted : IsDotted text
  pub name : f.name ≡ capitals (name_text text)
  pub kind : f.kind ≡ capitals (kind_text text)
  pub versions : IsVersions text f.versions

-- `...` at the end: all directories below
abbrev pub has_dots : List ℕ → Bool
has_dots text = ends_with nat_eq text (codes "...")

-- the text without the final `...`
abbrev pub place_text : List ℕ → List ℕ
place_text text = if has_dots text then take (length text - 3) text else text

-- the texts of the steps of a DIR, and of one more
abbrev pub folder_steps : ℕ → List ℕ → List ℕ → List (List ℕ)
folder_steps separator text more = step_texts separator (steps_text (place_text text)) (unless_empty more)

-- The text of a DIR and the text of one more step, which may be empty, spell the folder. In brackets a group and a member are the only step. No
-- step follows `...`.
pub record SpellsFolder (separator : ℕ) (text more : List ℕ) (f : Folder) : Type 0 where
  pub alone : separator ≡ 46 → Has 44 (place_text text) → Lacks 46 (place_text text)
  pub last : has_dots text ≡ true → more ≡ []
  pub each : All IsStep (folder_steps separator text more)
  pub steps : f.steps ≡ map step_of (folder_steps separator text more)
  pub below : f.below ≡ has_dots text

abbrev pub is_letter : ℕ → Bool
is_letter c = (nat_le 65 c && nat_le c 90) || (nat_le 97 c && nat_le c 122)

-- two letters, and at most three octal digits
abbrev pub is_device : List ℕ → Bool
is_device [] = false
is_device (a ∷ []) = false
is_device (a ∷ b ∷ digits) = is_letter a && is_letter b && nat_le (length digits) 3 && list_all is_octal_digit digits

abbrev pub past_cut : List ℕ → Option (List ℕ × List ℕ) → List ℕ
past_cut text None = text
past_cut text (Some parts) = if is_device parts.0 then parts.1 else text

-- the text after a leading device and its `:`
abbrev pub past_device : List ℕ → List ℕ
past_device text = past_cut text (cut_of 58 text)

abbrev pub begins_slash : List ℕ → Bool
begins_slash [] = false
begins_slash (c ∷ text) = c == 47

-- the text after one leading `/`; a text that begins with two is unchanged
abbrev pub past_slash : List ℕ → List ℕ
past_slash [] = []
past_slash (c ∷ text) = if (c == 47) && not (begins_slash text) then text else c ∷ text

-- The last part of a path is one more directory if it has no `.` and no version, and either no wildcard or a comma. Any other last part selects
-- files.
abbrev pub names_directory : List ℕ → Bool
names_directory text =
    nat_le 1 (length text) && not (list_any (is 46) text) && not (list_any begins_version text) && (not (has_wildcard text) || list_any (is 44) text)

abbrev pub directory_in : List ℕ → List ℕ
directory_in text = if names_directory text then text else []

abbrev pub files_in : List ℕ → List ℕ
files_in text = if names_directory text then [] else text

-- A path is [DIR]LAST, with `.` between the steps of DIR, or DIR/LAST, with `/` between them.
abbrev pub separator_of : List ℕ → ℕ
separator_of [] = 47
separator_of (c ∷ text) = if c == 91 then 46 else 47

abbrev pub before_files : List ℕ → List ℕ
before_files text = if names_directory (after_last (is 47) text) then text else before_last (is 47) text

-- the text of its DIR. Without brackets, a last part that names a directory belongs to the DIR.
abbrev pub folder_text : List ℕ → List ℕ
folder_text [] = []
folder_text (c ∷ text) = if c == 91 then before_first (is 93) text else before_files (past_slash (c ∷ text))

-- the text of one more directory, after brackets
abbrev pub more_text : List ℕ → List ℕ
more_text [] = []
more_text (c ∷ text) = if c == 91 then directory_in (after_first (is 93) text) else []

-- the text of its FILES
abbrev pub files_text : List ℕ → List ℕ
files_text [] = []
files_text (c ∷ text) = files_in (if c == 91 then after_first (is 93) text else after_last (is 47) (past_slash (c ∷ text)))

-- it begins with `#`, or with `@` for shells in which `#` has a meaning
abbrev pub begins_id : List ℕ → Bool
begins_id [] = false
begins_id (c ∷ text) = c == 35 || c == 64

-- a `[` is closed, and the text between the brackets is not empty
abbrev pub IsClosed : List ℕ → Type 0
IsClosed text = slice_index text 0 ≡ 91 → Has 93 (drop 1 text) × (0 < length (folder_text text))

-- files, if the text is not empty
abbrev pub SpellsSomeFiles : List ℕ → Option Files → Type 0
SpellsSomeFiles text None = text ≡ []
SpellsSomeFiles text (Some f) = (text ≢ []) × SpellsFiles text f

-- the texts of a DIR, of one more directory and of FILES have this meaning
abbrev pub IsWithin : ℕ → List ℕ → List ℕ → List ℕ → Said → Type 0
IsWithin separator dir more files (File f) = ⊥
IsWithin separator dir more files (Within folder some) = SpellsFolder separator dir more folder × SpellsSomeFiles files some

-- the meaning of a text without a device
abbrev pub SaysHere : List ℕ → Said → Type 0
SaysHere text (File f) = (begins_id text ≡ true) × IsId (drop 1 text) f
SaysHere text (Within folder files) =
    (begins_id text ≡ false) × IsClosed text × IsWithin (separator_of text) (folder_text text) (more_text text) (files_text text) (Within folder files)

-- the meaning of a text that is not empty; a leading device has no effect
abbrev pub Says : List ℕ → Said → Type 0
Says text said = (text ≢ []) × SaysHere (past_device text) said
