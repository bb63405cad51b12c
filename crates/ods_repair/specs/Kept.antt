-- The effect of a repair of names on the files: everything is unchanged except the names of directories.
use Rattle.std.specs.Prelude.{◌≡◌, false, Some, is_some}
use Rattle.std.specs.FinMap as map
use Rattle.ods_base.specs.declared.file_id.FileId.{FileId}
use Rattle.ods_request.specs.Catalogue.{Catalogue, File, is_directory}
use Rattle.ods_request.specs.Steps.{with_body}
use Rattle.ods_state.specs.Contents.{ShowsBy}
use Rattle.ods_filing.specs.Filed.{Filed}

-- The second file is the first one except for its body. If the body is not a directory, the files are the same.
abbrev pub KeepsFile : File → File → Type 0
KeepsFile f g = (with_body g f.body ≡ f) × (is_directory f.body ≡ false → g ≡ f)

-- The second catalogue has the files of the first one, under their IDs. A plain file is unchanged, with its attributes and its bytes, and a
-- directory is unchanged except for its names.
pub record KeepsAll (C D : Catalogue) : Type 0 where
  pub same : (id : FileId) → is_some (map.get D.files id) ≡ is_some (map.get C.files id)
  pub each : (id : FileId) (f : File) → map.get C.files id ≡ Some f → (g : File) × ((map.get D.files id ≡ Some g) × KeepsFile f g)

-- this holds for the catalogues that the blocks show before and after
abbrev pub KeepsFiles : Filed → Filed → Type 0
KeepsFiles old new = (C D : Catalogue) → ShowsBy old.image old.layout C → ShowsBy new.image new.layout D → KeepsAll C D
