-- The numbers in paths: file IDs, versions, groups and members.
use Rattle.std.specs.Prelude.{◌≡◌, ℕ, ◌≤◌, ◌&&◌, nat_le, Bool, List, length, take, drop, codes, if◌then◌else◌, Option, Some, None}
use Rattle.std.specs.List.{before_first, after_first, list_all}
use Rattle.std.specs.Str.{bytes_eq}
use Rattle.ods_text.specs.Cuts.{is, Has}
use Rattle.ods_text.specs.Numbers.{IsSmallNumber, IsOctal, octal_value}
use Rattle.ods_base.specs.declared.file_id.FileId.{FileId}
use Rattle.ods_paths.specs.declared.versions.Versions.{Versions}
use Rattle.ods_paths.specs.declared.versions.Versions.TheVariants.{Exact, Highest, Lowest, Every}

-- a file ID: its number, which is not 0, and its sequence number, with a comma between them
abbrev pub IsId : List ℕ → FileId → Type 0
IsId text f = Has 44 text × IsSmallNumber (before_first (is 44) text) f.number × IsSmallNumber (after_first (is 44) text) f.sequence × (1 ≤ f.number)

-- the text after the `;`: `0` for the highest version, `-1` for the lowest, `*` for all, or a version, 1 to 32,767
abbrev pub IsVersion : List ℕ → Versions → Type 0
IsVersion text Highest = text ≡ codes "0"
IsVersion text Lowest = text ≡ codes "-1"
IsVersion text Every = text ≡ codes "*"
IsVersion text (Exact n) = IsSmallNumber text n × (1 ≤ n) × (n ≤ 32767)

-- the single version that a text specifies
abbrev pub IsExact : List ℕ → Versions → Type 0
IsExact text v = (n : ℕ) × (v ≡ Exact n) × IsSmallNumber text n × (1 ≤ n) × (n ≤ 32767)

-- 0 to 7
abbrev pub is_octal_digit : ℕ → Bool
is_octal_digit c = nat_le 48 c && nat_le c 55

-- one to three octal digits, at most 377
abbrev pub is_octal : List ℕ → Bool
is_octal text = nat_le 1 (length text) && nat_le (length text) 3 && list_all is_octal_digit text && nat_le (octal_value 0 text) 255

-- the group or the member of a text: `*` for all, or one in octal. Any other text has none.
abbrev pub choice_of : List ℕ → Option (Option ℕ)
choice_of text = if bytes_eq text (codes "*") then Some None else (if is_octal text then Some (Some (octal_value 0 text)) else None)

-- the name of the directory of a group and a member: three octal digits for each
pub record IsNumberedName (name : List ℕ) (group : ℕ) (member : ℕ) : Type 0 where
  pub six : length name ≡ 6
  pub first : IsOctal (take 3 name) group
  pub last : IsOctal (drop 3 name) member
