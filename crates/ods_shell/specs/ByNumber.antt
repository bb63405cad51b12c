-- Files by their numbers: for each existing file one entry that names it, in a directory that a path from the master directory reaches.
use Rattle.std.specs.Prelude.{◌≡◌, ℕ, ◌<◌, List, [], ◌∷◌, length, slice_index_or, Option, Some, None, MatchOption}
use Rattle.std.specs.Option.{option_map}
use Rattle.std.specs.List.{Contains}
use Rattle.ods_base.specs.declared.listed.Listed.{Listed}
use Rattle.ods_space.specs.Layout.{VolumeLayout}
use Rattle.ods_walk.specs.Complete.{AreReached, HasEntry}
use Rattle.ods_walk.specs.Paths.{number_at, path_to}
use Rattle.ods_walk.specs.declared.tables.Entered.{Entered}
use Rattle.ods_walk.specs.declared.tables.Line.{Line}
use Rattle.ods_shell.specs.Texts.{shown_path}
use Rattle.ods_shell.specs.There.{IsThere}

-- the directories that paths from the master directory reach, and for each number the line of an entry that names its file, or none
pub record NamedFiles : Type 0 where
  pub directories : List Entered
  pub first : List (Option Line)

-- the entry names file n, which exists
abbrev pub NamesFile : List (List ℕ) → VolumeLayout → ℕ → Listed → Type 0
NamesFile I L n e = IsThere I L e.file × (e.file.number ≡ n)

-- none of these entries names file n
abbrev pub AreOthers : List (List ℕ) → VolumeLayout → ℕ → List Listed → Type 0
AreOthers I L n entries = (e : Listed) → Contains entries e → ¬ NamesFile I L n e

-- no entry of the first `many` directories names file n
abbrev pub AreWithout : List (List ℕ) → VolumeLayout → List Entered → ℕ → ℕ → Type 0
AreWithout I L directories many n = (p : ℕ) (e : Listed) → p < many → HasEntry I L (number_at directories p) e → ¬ NamesFile I L n e

-- the line has an entry of one of these directories, and names file n
pub record IsNameOf (I : List (List ℕ)) (L : VolumeLayout) (directories : List Entered) (n : ℕ) (line : Line) : Type 0 where
  pub within : line.directory < length directories
  pub has : HasEntry I L (number_at directories line.directory) line.entry
  pub names : NamesFile I L n line.entry

-- The line that is noted for a number names its file. If none is noted, no entry in the first `many` directories names the file.
pub record AreNoted (I : List (List ℕ)) (L : VolumeLayout) (directories : List Entered) (many : ℕ) (first : List (Option Line)) : Type 0 where
  pub size : length first ≡ 65536
  pub each : (n : ℕ) → n < 65536 → MatchOption (slice_index_or first n None) (AreWithout I L directories many n) (IsNameOf I L directories n)

-- These are the names of a volume. Its directories are all directories that paths from the master directory reach, and no entry in them is left
-- out.
pub record AreNames (I : List (List ℕ)) (L : VolumeLayout) (names : NamedFiles) : Type 0 where
  pub reached : AreReached I L 4 (4 ∷ []) names.directories
  pub noted : AreNoted I L names.directories (length names.directories) names.first

-- the path of a line by these directories
abbrev pub path_by : List Entered → Line → List ℕ
path_by directories line = shown_path (path_to directories line.directory) line.entry

-- the path of file n, if one is noted
abbrev pub path_noted : NamedFiles → ℕ → Option (List ℕ)
path_noted names n = option_map (path_by names.directories) (slice_index_or names.first n None)
