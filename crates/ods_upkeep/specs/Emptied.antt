-- The requests of rmdir: empty directories are deleted, with their entries.
use Rattle.std.specs.Prelude.{◌≡◌, ◌<◌, ℕ, false, List, [], ◌∷◌, Some, None}
use Rattle.std.specs.Borrow.{Bor}
use Rattle.std.specs.List.{All}
use Rattle.ods_space.specs.Layout.{VolumeLayout}
use Rattle.ods_mount.specs.Faults.{IsDirectoryFile}
use Rattle.ods_paths.specs.Paths.{Folder}
use Rattle.ods_paths.specs.declared.versions.Versions.TheVariants.{Highest}
use Rattle.ods_filing.specs.Filed.{Filed}
use Rattle.ods_shell.specs.declared.facts.Facts.{Facts}
use Rattle.ods_shell.specs.declared.facts.Kind.TheVariants.{Directory}
use Rattle.ods_shell.specs.declared.found.Found.{Found}
use Rattle.ods_shell.specs.Found.{AreLinesOf}
use Rattle.ods_shell.specs.Named.{AreNamed}
use Rattle.ods_upkeep.specs.Counted.{AreCounts}
use Rattle.ods_upkeep.specs.Hidden.{HidesEntries}
use Rattle.ods_upkeep.specs.Made.{directories_named}
use Rattle.ods_upkeep.specs.Meant.{Means}
use Rattle.ods_upkeep.specs.Removed.{Does, removals}

-- a directory with no entry, and none past its end mark, which is not one of the volume's own files, 1 to 5
pub record IsEmptyDirectory (I : List (List ℕ)) (L : VolumeLayout) (found : Found) : Type 0 where
  pub facts : Facts
  pub known : found.facts ≡ Some facts
  pub is : facts.kind ≡ Directory
  pub directory : IsDirectoryFile I L facts.file.number
  pub above : 5 < facts.file.number
  pub empty : AreLinesOf I L facts.file.number []
  pub shows : ¬ HidesEntries I L facts.file.number

-- these are the selection of the path, the highest version of each
pub record IsSought (I : List (List ℕ)) (L : VolumeLayout) (path : List ℕ) (found : List Found) : Type 0 where
  pub up : Folder
  pub name : List ℕ
  pub means : Means path up name
  pub are : AreNamed I L [] up (directories_named name Highest) None found

-- The directories that the path selects are all empty. Their entries are removed, and each directory that no other entry names is deleted. Nothing
-- else was done.
pub record IsEmptied (path : List ℕ) (old new : Filed) : Type 0 where
  pub found : List Found
  pub sought : IsSought old.image old.layout path found
  pub empty : All (IsEmptyDirectory old.image old.layout) found
  pub names : ℕ → ℕ
  pub counted : AreCounts old.image old.layout names
  pub done : Does old (removals false names found) new

-- the same of these paths, in order: a later directory may have held an earlier one
abbrev pub AreEmptied : List (Bor (List ℕ)) → Filed → Filed → Type 0
AreEmptied [] old new = new ≡ old
AreEmptied (path ∷ paths) old new = (mid : Filed) × IsEmptied path.now old mid × AreEmptied paths mid new
