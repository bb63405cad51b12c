-- The common properties of all records of a file, and when they are read as lines without an option.
use Rattle.std.specs.Prelude.{◌≡◌, ◌-◌, ℕ, Bool, true, not, ◌&&◌, ◌||◌, ◌==◌, List, length, slice_index}
use Rattle.std.specs.List.{list_all}
use Rattle.ods_records.specs.declared.survey.Survey.{Survey}
use Rattle.ods_records.specs.Attributes.{is_controlled}
use Rattle.ods_records.specs.Lines.{is_text_byte, longest_of}

-- the last byte is a CR
abbrev pub ends_with_cr : List ℕ → Bool
ends_with_cr r = slice_index r (length r - 1) == 13

-- a record that is one line in a text: it has no LF, and no CR at its end
abbrev pub is_line : List ℕ → Bool
is_line r = list_all (λ b. not (b == 10)) r && not (ends_with_cr r)

-- each byte is valid in a text
abbrev pub is_printable : List ℕ → Bool
is_printable r = list_all is_text_byte r

abbrev pub survey_of : List (List ℕ) → Survey
survey_of records = record { longest = longest_of records; lines = list_all is_line records; printable = list_all is_printable records }

-- The records of a file are extracted as lines without an option: each is a line again, and they have carriage control or can be printed.
abbrev pub come_as_lines : List ℕ → List (List ℕ) → Bool
come_as_lines attributes records = list_all is_line records && (is_controlled attributes || list_all is_printable records)
