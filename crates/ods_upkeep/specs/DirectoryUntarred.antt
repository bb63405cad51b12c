-- The result of untar for a directory of an archive, and why the directory does not exist.
use Rattle.std.specs.Prelude.{◌≡◌, ◌⊎◌, ℕ, true, false, MatchBool, List, [], Option, Some, None}
use Rattle.ods_base.specs.declared.file_id.FileId.{FileId}
use Rattle.ods_paths.specs.Patterns.{has_wildcard}
use Rattle.ods_filing.specs.Filed.{Filed}
use Rattle.ods_upkeep.specs.Made.{IsMade}
use Rattle.ods_upkeep.specs.Refused.{no_memory}
use Rattle.ods_upkeep.specs.Unmade.{IsNotMade}
use Rattle.ods_upkeep.specs.Wayside.{IsDirectoryAt, IsFreeAt, IsNoFolder, IsNotOpen, IsOpen, IsParted, IsWay, StopsOnWay, names_nothing, with_part}
use Rattle.ods_upkeep.specs.declared.failure.Why.{Why}
use Rattle.ods_upkeep.specs.declared.failure.Why.TheVariants.{Several}
use Rattle.ods_upkeep.specs.declared.untarring_directories.PackedDirectory.{PackedDirectory}

-- the directory of a path is created, and this is its file
abbrev pub IsMadeAs : List ℕ → List ℕ → FileId → Filed → Filed → Type 0
IsMadeAs stamp path file old new = IsMade None 0 stamp path old new × IsOpen new.image new.layout path file

-- why it is not created; or it is, but it is unknown which file it is
abbrev pub IsNotMadeAs : List ℕ → List ℕ → Filed → Filed → Why → Type 0
IsNotMadeAs stamp path old new why = IsNotMade None 0 stamp path old new why ⊎ (IsMade None 0 stamp path old new × IsNotOpen new.image new.layout path why)

-- The directory of a path exists then. It existed, and nothing is done; or this file is created.
abbrev pub IsThereAs : List ℕ → List ℕ → Option FileId → Filed → Filed → Type 0
IsThereAs stamp path None old new = (file : FileId) × IsDirectoryAt old.image old.layout path file × (new ≡ old)
IsThereAs stamp path (Some file) old new = IsFreeAt old.image old.layout path × IsMadeAs stamp path file old new

-- why it does not exist, and cannot be created
abbrev pub IsNotThereAs : List ℕ → List ℕ → Filed → Filed → Why → Type 0
IsNotThereAs stamp path old new why =
    ((new ≡ old) × IsNoFolder old.image old.layout path why) ⊎ (IsFreeAt old.image old.layout path × IsNotMadeAs stamp path old new why)

-- The directory of an archive exists. The missing directories on its way were created at the time of the run, and the directory itself at the time of
-- its member; `made` is its file then. A path whose last part names nothing creates only its way.
pub record IsDirectoryUntarred (run : List ℕ) (packed : PackedDirectory) (made : Option FileId) (old new : Filed) : Type 0 where
  pub plain : has_wildcard packed.path.now ≡ false
  pub parts : List (List ℕ)
  pub last : List ℕ
  pub parted : IsParted packed.path.now parts last
  -- the way to the directory above, and the volume when all directories on it exist
  pub way : List ℕ
  pub ready : Filed
  pub on_way : IsWay run parts [] old way ready
  pub there : MatchBool (names_nothing last) ((made ≡ None) × (new ≡ ready)) (IsThereAs packed.stamp (with_part way last) made ready new)

-- Why it does not exist, and what was done for it. Its path has wildcards: nothing was done. Or a directory on its way does not exist, and cannot be
-- created. Or the directory itself does not exist, or out of memory.
pub data IsNotDirectoryUntarred (run : List ℕ) (packed : PackedDirectory) (old new : Filed) : Why → Type 0 where
  several : has_wildcard packed.path.now ≡ true → new ≡ old → IsNotDirectoryUntarred run packed old new Several
  stopped : (why : Why) (parts : List (List ℕ)) (last : List ℕ) → IsParted packed.path.now parts last → StopsOnWay run parts [] old new why → IsNotDirectoryUntarred run packed old new why
  forgotten : (parts : List (List ℕ)) (last way : List ℕ) → IsParted packed.path.now parts last → IsWay run parts [] old way new → IsNotDirectoryUntarred run packed old new no_memory
  missing : (why : Why) (parts : List (List ℕ)) (last way : List ℕ) (ready : Filed) → IsParted packed.path.now parts last → IsWay run parts [] old way ready → names_nothing last ≡ false
      → IsNotThereAs packed.stamp (with_part way last) ready new why → IsNotDirectoryUntarred run packed old new why
