-- The steps from the master directory to the directories of a path.
use Rattle.std.specs.Prelude.{ℕ, ◌<◌, ◌==◌, Bool, true, false, List, [], ◌∷◌, ◌++◌, length, codes, if◌then◌else◌, Option, Some, None}
use Rattle.std.specs.List.{before_first, after_first, slice_split}
use Rattle.std.specs.Str.{bytes_eq}
use Rattle.ods_text.specs.Cuts.{is}
use Rattle.ods_paths.specs.Numbers.{choice_of}
use Rattle.ods_paths.specs.Patterns.{IsPattern, capitals}

-- A step from a directory to directories in it: to the directory of a group and a member, or to the directories that match a pattern. None selects
-- every group or every member.
pub data Step : Type 0 where
  Numbers : Option ℕ → Option ℕ → Step
  Pattern : List ℕ → Step

abbrev pub step_by : List ℕ → Option (Option ℕ) → Option (Option ℕ) → Step
step_by text (Some group) (Some member) = Numbers group member
step_by text (Some group) None = Pattern (capitals text)
step_by text None member = Pattern (capitals text)

-- the step of a text: a group and a member, with a comma between them; otherwise a pattern
abbrev pub step_of : List ℕ → Step
step_of text = step_by text (choice_of (before_first (is 44) text)) (choice_of (after_first (is 44) text))

abbrev pub IsSpelled : List ℕ → Step → Type 0
IsSpelled text (Numbers group member) = Unit {0}
IsSpelled text (Pattern name) = (0 < length text) × IsPattern 9 text

-- the text is a step: numbers, or a pattern for a name, which is not empty
abbrev pub IsStep : List ℕ → Type 0
IsStep text = IsSpelled text (step_of text)

abbrev pub is_zeros : Step → Bool
is_zeros (Numbers (Some group) (Some member)) = if group == 0 then member == 0 else false
is_zeros (Numbers (Some group) None) = false
is_zeros (Numbers None member) = false
is_zeros (Pattern name) = false

-- `000000` and `0,0` are the master directory
abbrev pub names_master : List ℕ → Bool
names_master text = if bytes_eq text (codes "000000") then true else is_zeros (step_of text)

-- the text of the steps; none if the text is empty or is the master directory
abbrev pub steps_text : List ℕ → Option (List ℕ)
steps_text [] = None
steps_text (c ∷ text) = if names_master (c ∷ text) then None else Some (c ∷ text)

abbrev pub between : ℕ → Option (List ℕ) → List (List ℕ)
between separator None = []
between separator (Some text) = slice_split (is separator) text

abbrev pub one_more : Option (List ℕ) → List (List ℕ)
one_more None = []
one_more (Some text) = text ∷ []

-- the texts of the steps: the texts between the separators of `text`, and `more`, if these are given
abbrev pub step_texts : ℕ → Option (List ℕ) → Option (List ℕ) → List (List ℕ)
step_texts separator text more = between separator text ++ one_more more

-- the text, unless it is empty
abbrev pub unless_empty : List ℕ → Option (List ℕ)
unless_empty [] = None
unless_empty (c ∷ text) = Some (c ∷ text)
