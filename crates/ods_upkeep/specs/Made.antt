-- Directories that mkdir makes: where, for whom, and the resulting volume.
use Rattle.std.specs.Prelude.{◌≡◌, ◌≢◌, ◌+◌, ◌/◌, ℕ, false, max, List, [], ◌∷◌, ◌++◌, codes, ◌⊎◌, Option, Some, None}
use Rattle.std.specs.Borrow.{Bor}
use Rattle.ods_base.specs.Name.{RadName, Spells, title}
use Rattle.ods_base.specs.declared.file_id.FileId.{FileId}
use Rattle.ods_base.specs.declared.file_id.Uic.{Uic}
use Rattle.ods_base.specs.declared.name.Pick.TheVariants as pick
use Rattle.ods_space.specs.Layout.{VolumeLayout}
use Rattle.ods_request.specs.declared.answers.Answer.TheVariants.{Created}
use Rattle.ods_request.specs.declared.requests.Request.TheVariants.{Create, Enter}
use Rattle.ods_paths.specs.Numbers.{IsNumberedName}
use Rattle.ods_paths.specs.Paths.{Files, Folder}
use Rattle.ods_paths.specs.Patterns.{has_wildcard}
use Rattle.ods_paths.specs.declared.versions.Versions.{Versions}
use Rattle.ods_paths.specs.declared.versions.Versions.TheVariants.{Every}
use Rattle.ods_filing.specs.Filed.{Filed, for_another, IsDone}
use Rattle.ods_filing.specs.Led.{IsObeyed}
use Rattle.ods_shell.specs.Named.{AreNamed}
use Rattle.ods_upkeep.specs.Hidden.{HidesEntries}
use Rattle.ods_upkeep.specs.Meant.{Means}
use Rattle.ods_upkeep.specs.Target.{IsTheDirectory}

-- the directories of this name, or pattern, in these versions
abbrev pub directories_named : List ℕ → Versions → Files
directories_named name versions = record { name = name; kind = codes "DIR"; versions = Some versions }

-- The path specifies a new directory of this name in this one. No version of the name exists, and no entry of the directory above is hidden. The name
-- is not that of the master directory in itself.
pub record IsNewPlace (I : List (List ℕ)) (L : VolumeLayout) (path : List ℕ) (dir : FileId) (name : RadName) : Type 0 where
  pub up : Folder
  pub text : List ℕ
  pub means : Means path up text
  pub one : has_wildcard text ≡ false
  pub above : IsTheDirectory I L up dir
  pub spelled : Spells (text ++ codes ".DIR") name pick.Highest
  pub free : AreNamed I L [] up (directories_named text Every) None []
  pub shows : ¬ HidesEntries I L dir.number
  pub other : dir.number ≡ 4 → text ≢ codes "000000"

-- in the master directory, file 4, the name is the six octal digits of a group and a member
abbrev pub IsNumbered : FileId → RadName → ℕ → ℕ → Type 0
IsNumbered dir name group member = (dir.number ≡ 4) × IsNumberedName (title name) group member

-- The owner of a new directory: the given one; otherwise the group and the member in its name; otherwise the user.
abbrev pub IsOwner : Option Uic → Uic → FileId → RadName → Uic → Type 0
IsOwner (Some said) user dir name owner = owner ≡ said
IsOwner None user dir name owner =
    IsNumbered dir name owner.group owner.member
    ⊎ (((group member : ℕ) → ¬ IsNumbered dir name group member) × (owner ≡ user))

-- how many blocks a directory has with room for this number of names: one for each 32, or one
abbrev pub blocks_for : ℕ → ℕ
blocks_for names = max ((names + 31) / 32) 1

-- The directory of the path was made: its owner requested the new file, and then the user entered it under version 1.
pub record IsMade (said : Option Uic) (names : ℕ) (stamp : List ℕ) (path : List ℕ) (old new : Filed) : Type 0 where
  pub dir : FileId
  pub name : RadName
  pub place : IsNewPlace old.image old.layout path dir name
  pub file : FileId
  pub owner : Uic
  pub owns : IsOwner said old.user dir name owner
  -- the volume between the two requests
  pub mid : Filed
  pub created : IsDone (for_another old owner) (Create name 1 (blocks_for names) stamp) (Created file) mid
  pub entered : IsObeyed (for_another mid old.user) (Enter dir name (Some 1) file) new

-- the directories of these paths were made, in order: a later one may be below an earlier one
abbrev pub AreMade : Option Uic → ℕ → List ℕ → List (Bor (List ℕ)) → Filed → Filed → Type 0
AreMade said names stamp [] old new = new ≡ old
AreMade said names stamp (path ∷ paths) old new = (mid : Filed) × IsMade said names stamp path.now old mid × AreMade said names stamp paths mid new
