-- The file that a path probably means: one of its name in another directory.
use Rattle.std.specs.Prelude.{◌≡◌, ℕ, List, Some, slice_get, string_bytes}
use Rattle.ods_paths.specs.Paths.{Files, Folder, Says, Within}
use Rattle.ods_paths.specs.declared.versions.Versions.TheVariants.{Highest}
use Rattle.ods_shell.specs.Named.{AreNamed}
use Rattle.ods_shell.specs.Ways.{CountAsClosed}
use Rattle.ods_shell.specs.declared.folders.Directory.{Directory}
use Rattle.ods_shell.specs.declared.found.Found.{Found}
use Rattle.ods_space.specs.Layout.{VolumeLayout}
use Rattle.fs_reads.specs.Named.{everywhere}

-- The path gives a name. This is the path of the first file that has it, in all directories whose names may be read.
pub record IsNear (I : List (List ℕ)) (L : VolumeLayout) (closed path near : List ℕ) : Type 0 where
  pub folder : Folder
  pub files : Files
  pub says : Says path (Within folder (Some files))
  pub found : List Found
  pub met : List Directory
  pub named : (shut : List ℕ) → CountAsClosed closed met shut → AreNamed I L shut everywhere files (Some Highest) found
  pub first : Found
  pub is_first : slice_get found 0 ≡ Some first
  pub shown : near ≡ string_bytes first.path
