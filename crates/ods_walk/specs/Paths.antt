-- The lines of a walk with their paths, by the table of the entered directories.
use Rattle.std.specs.Prelude.{ℕ, ◌==◌, List, [], ◌∷◌, ◌++◌, length, map, reverse, slice_get, if◌then◌else◌, Option, Some, None}
use Rattle.std.specs.Option.{option_map_or}
use Rattle.ods_base.specs.Name.{RadName}
use Rattle.ods_space.specs.Layout.{VolumeLayout}
use Rattle.ods_walk.specs.declared.tables.Entered.{Entered}
use Rattle.ods_walk.specs.declared.tables.Line.{Line as Placed}
use Rattle.ods_walk.specs.Walk.{Line, IsWalkBelow, IsWalkPast}

-- the result of a walk, as contracts see it: the directories in the order in which they were entered, and the lines, each with the index of its
-- directory among them
pub record Tables : Type 0 where
  pub directories : List Entered
  pub lines : List Placed

-- the path of a directory: the path of the directory with its entry, and its name there
abbrev pub led_by : (ℕ → List RadName) → Option (ℕ × RadName) → List RadName
led_by path None = []
led_by path (Some from) = path from.0 ++ from.1 ∷ []

-- the path of the directory at this index of a table, which begins with the directory entered last
abbrev pub path_in : List Entered → ℕ → List RadName
path_in [] place = []
path_in (entered ∷ before) place = if place == length before then led_by (λ at. path_in before at) entered.from else path_in before place

-- the path of the directory at this index
abbrev pub path_to : List Entered → ℕ → List RadName
path_to directories place = path_in (reverse directories) place

-- the number of the directory at this index
abbrev pub number_at : List Entered → ℕ → ℕ
number_at directories place = option_map_or (λ e. e.number) (slice_get directories place) 0

-- a line with the path to its directory
abbrev pub line_in : List Entered → Placed → Line
line_in directories l = record { path = path_to directories l.directory; directory = number_at directories l.directory; entry = l.entry }

-- the result is the walk below directory n that enters none of the closed ones
abbrev pub IsWalkButFor : List (List ℕ) → VolumeLayout → ℕ → List ℕ → Tables → Type 0
IsWalkButFor I L n closed w = IsWalkPast I L n closed (map (line_in w.directories) w.lines)

-- the result is the walk below directory n
abbrev pub IsWalk : List (List ℕ) → VolumeLayout → ℕ → Tables → Type 0
IsWalk I L n w = IsWalkBelow I L n (map (line_in w.directories) w.lines)
