-- A list of files with their IDs, in any order, as the files of a catalogue.
use Rattle.std.specs.Prelude.{ℕ, suc, List, [], ◌∷◌, if◌then◌else◌}
use Rattle.std.specs.FinMap as map
use Rattle.std.specs.FinSet as set
use Rattle.ods_base.specs.declared.file_id.FileId.{FileId}
use Rattle.ods_request.specs.Catalogue.{Catalogue, File}
use Rattle.ods_request.specs.Equal.{same_id}

-- the catalogue of these files, and these IDs of the past
abbrev pub catalogue_in : List (FileId × File) → List FileId → ℕ → Catalogue
catalogue_in rows past default = record { files = map.from_entries rows; past = set.from_list past; default = default }

-- the index of the file with this ID, or the length of the list
abbrev pub place_of : FileId → List (FileId × File) → ℕ
place_of id [] = 0
place_of id (r ∷ rows) = if same_id r.0 id then 0 else suc (place_of id rows)
