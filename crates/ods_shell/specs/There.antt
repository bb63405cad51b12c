-- The lines of `find`: the files that paths reach, and the files that no path reaches.
use Rattle.std.specs.Prelude.{◌≡◌, ◌≢◌, ◌<◌, ℕ, Bool, false, if◌then◌else◌, List, [], ◌∷◌, ◌++◌, codes, length, map, slice_get, slice_index_or, Option, Some, None, MatchBool}
use Rattle.std.specs.List.{Contains, flat_map, range_with_len}
use Rattle.ods_base.specs.declared.file_id.FileId.{FileId}
use Rattle.ods_base.specs.declared.listed.Listed.{Listed}
use Rattle.ods_header.specs.Header.{sequence_of}
use Rattle.ods_header.specs.Text.{file_id_text}
use Rattle.ods_space.specs.Layout.{VolumeLayout, header_at, last_number}
use Rattle.ods_space.specs.Files.{IsFile}
use Rattle.ods_mount.specs.Faults.{IsDirectoryFile}
use Rattle.ods_walk.specs.Complete.{HasEntry}
use Rattle.ods_walk.specs.declared.tables.Line.{Line}
use Rattle.ods_shell.specs.Choosing.{AreThose}
use Rattle.ods_shell.specs.Json.{object_line, of_image, with_text}
use Rattle.ods_shell.specs.Named.{id_of}
use Rattle.ods_shell.specs.Texts.{shown_id, shown_path}
use Rattle.ods_shell.specs.declared.folders.Directory.{Directory}

-- there is a file with this ID
abbrev pub IsThere : List (List ℕ) → VolumeLayout → FileId → Type 0
IsThere I L file = IsFile I L file.number × (sequence_of (header_at I L file.number) ≡ file.sequence)

-- the line of a file that has no path
abbrev pub unreached_line : FileId → List ℕ
unreached_line file = shown_id file ++ codes "  -" ++ 10 ∷ []

-- the path of an entry by the directory that contains it; nothing if there is none
abbrev pub path_in : Option Directory → Listed → List ℕ
path_in None entry = []
path_in (Some d) entry = shown_path d.names.items entry

-- the path of a found line in these directories
abbrev pub line_path : List Directory → Line → List ℕ
line_path directories line = path_in (slice_get directories line.directory) line.entry

-- the line of a found path: the ID, and the path
abbrev pub found_line : List Directory → Line → List ℕ
found_line directories line = shown_id line.entry.file ++ codes "  " ++ line_path directories line ++ 10 ∷ []

-- the same, or an object of this image with the ID
abbrev pub unreached_text : Bool → List ℕ → FileId → List ℕ
unreached_text json image file = if json then object_line (with_text (codes "id") (file_id_text file) (of_image image)) else unreached_line file

-- the IDs that lines name
abbrev pub ids_in : List Line → List FileId
ids_in lines = map (λ line. line.entry.file) lines

-- File n exists, and its ID is not one of these.
abbrev pub IsNotAmong : List (List ℕ) → VolumeLayout → List FileId → ℕ → Type 0
IsNotAmong I L ids n = IsFile I L n × ¬ Contains ids (id_of I L n)

-- File n exists, and no entry of any directory names it.
abbrev pub IsNamedByNone : List (List ℕ) → VolumeLayout → ℕ → Type 0
IsNamedByNone I L n = IsFile I L n × ((d : ℕ) (e : Listed) → IsDirectoryFile I L d → HasEntry I L d e → e.file ≢ id_of I L n)

-- File n exists, and is not flagged.
abbrev pub IsUnnoted : List (List ℕ) → VolumeLayout → List Bool → ℕ → Type 0
IsUnnoted I L flags n = IsFile I L n × (slice_index_or flags n false ≡ false)

-- File n exists, and its ID is one of these.
abbrev pub IsAmong : List (List ℕ) → VolumeLayout → List FileId → ℕ → Type 0
IsAmong I L ids n = IsFile I L n × Contains ids (id_of I L n)

-- the entries of directory d name exactly these IDs; there are none if d is not a directory
pub record AreNamedIds (I : List (List ℕ)) (L : VolumeLayout) (d : ℕ) (ids : List FileId) : Type 0 where
  pub only : (id : FileId) → Contains ids id → IsDirectoryFile I L d × ((e : Listed) × HasEntry I L d e × (e.file ≡ id))
  pub all : (e : Listed) → IsDirectoryFile I L d → HasEntry I L d e → Contains ids e.file

-- exactly the numbers below 65,536 that satisfy P are flagged
pub record AreFlags (P : ℕ → Type 0) (flags : List Bool) : Type 0 where
  pub size : length flags ≡ 65536
  pub each : (n : ℕ) → n < 65536 → MatchBool (slice_index_or flags n false) (P n) (¬ P n)

-- the text has a line, or an object, for exactly the files that satisfy P, in the order of their numbers
abbrev pub AreUnreached : List (List ℕ) → VolumeLayout → (ℕ → Type 0) → Bool → List ℕ → List ℕ → Type 0
AreUnreached I L P json image text =
    (numbers : List ℕ) × AreThose P (range_with_len 1 (last_number L)) numbers × (text ≡ flat_map (λ n. unreached_text json image (id_of I L n)) numbers)
