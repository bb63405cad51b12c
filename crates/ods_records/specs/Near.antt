-- Texts that would have only text bytes and come back from records unchanged, except for one defect.
use Rattle.std.specs.Prelude.{◌≡◌, ◌≢◌, ℕ, ◌+◌, ◌-◌, ◌<◌, ◌≤◌, true, false, List, length, slice_index, take, ◌==◌}
use Rattle.std.specs.List.{All, list_all, count_by}
use Rattle.std.specs.Str.Lines.{lines}
use Rattle.ods_records.specs.declared.near.NearText.{NearText}
use Rattle.ods_records.specs.declared.near.NearText.TheVariants.{NoLastLf, CrLf, LongLine, OddByte}
use Rattle.ods_records.specs.Lines.{is_text_byte}

-- it is empty or ends with LF
abbrev pub IsEnded : List ℕ → Type 0
IsEnded text = 0 < length text → slice_index text (length text - 1) ≡ 10

-- no line has more than 32,767 bytes
abbrev pub IsShort : List ℕ → Type 0
IsShort text = All (λ line. length line ≤ 32767) (lines text)

-- CR LF is at this offset
abbrev pub HasCrLf : List ℕ → ℕ → Type 0
HasCrLf text at = (slice_index text at ≡ 13) × (slice_index text (at + 1) ≡ 10)

abbrev pub LacksCrLf : List ℕ → Type 0
LacksCrLf text = (at : ℕ) → ¬ HasCrLf text at

abbrev pub IsFirstCrLf : List ℕ → ℕ → Type 0
IsFirstCrLf text at = HasCrLf text at × ((k : ℕ) → k < at → ¬ HasCrLf text k)

-- the byte at this offset is not valid in a text
abbrev pub IsOdd : List ℕ → ℕ → Type 0
IsOdd text at = (at < length text) × (is_text_byte (slice_index text at) ≡ false)

abbrev pub LacksOdd : List ℕ → Type 0
LacksOdd text = (at : ℕ) → ¬ IsOdd text at

abbrev pub IsFirstOdd : List ℕ → ℕ → Type 0
IsFirstOdd text at = IsOdd text at × ((k : ℕ) → k < at → ¬ IsOdd text k)

-- the number of the line with this offset, counted from 1
abbrev pub line_of : List ℕ → ℕ → ℕ
line_of text at = count_by (λ b. b == 10) (take at text) + 1

-- The defect; all other conditions for a text hold.
abbrev pub IsNear : List ℕ → NearText → Type 0
IsNear text NoLastLf = ¬ IsEnded text × LacksCrLf text × IsShort text × LacksOdd text
IsNear text (CrLf line) = IsEnded text × IsShort text × LacksOdd text × ((at : ℕ) × IsFirstCrLf text at × (line ≡ line_of text at))
IsNear text LongLine = IsEnded text × LacksCrLf text × ¬ IsShort text × LacksOdd text
IsNear text (OddByte line byte) = IsEnded text × LacksCrLf text × IsShort text × ((at : ℕ) × IsFirstOdd text at × (line ≡ line_of text at) × (byte ≡ slice_index text at))
