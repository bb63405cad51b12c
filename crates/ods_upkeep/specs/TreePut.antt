-- The result of put -r for a volume: a directory for each folder of a tree of the host, and the files of the tree in them.
use Rattle.std.specs.Prelude.{◌≡◌, ◌⊎◌, ℕ, false, List, Option, Some, None}
use Rattle.ods_base.specs.Name.{RadName}
use Rattle.ods_base.specs.declared.file_id.FileId.{FileId}
use Rattle.ods_filing.specs.Filed.{Filed}
use Rattle.ods_upkeep.specs.CopiedTree.{IsPlaceBelow}
use Rattle.ods_upkeep.specs.HostPut.{IsHostPut}
use Rattle.ods_upkeep.specs.Left.{InPut}
use Rattle.ods_upkeep.specs.TreeNames.{IsNoTreeName, IsTreeName, SaysFolders, SaysNoFolders}
use Rattle.ods_upkeep.specs.UncopiedTree.{IsNoPlaceBelow}
use Rattle.ods_upkeep.specs.Unput.{IsNotPut}
use Rattle.ods_upkeep.specs.Wayside.{IsNotOpen, IsNotThere, IsOpen, IsParted, IsThereThen}
use Rattle.ods_upkeep.specs.declared.failure.Why.{Why}
use Rattle.ods_upkeep.specs.declared.putting_tree.TreeForm.{TreeForm}

-- The directory below which a tree is put exists then, created like with mkdir if it does not exist, and takes names.
abbrev pub IsRoot : List ℕ → List ℕ → Filed → FileId → Filed → Type 0
IsRoot stamp to old dir new = IsThereThen stamp to old new × IsOpen new.image new.layout to dir

-- why there is none, and what was done
abbrev pub IsNoRoot : List ℕ → List ℕ → Filed → Filed → Why → Type 0
IsNoRoot stamp to old new why = IsNotThere stamp to old new why ⊎ (IsThereThen stamp to old new × IsNotOpen new.image new.layout to why)

-- The folders of a path reach that directory from this one. Missing ones are created.
abbrev pub IsFolderAt : List ℕ → FileId → List ℕ → Filed → FileId → Filed → Type 0
IsFolderAt stamp dir path old place new = (names : List RadName) × SaysFolders path names × IsPlaceBelow stamp dir names old place new

-- why they do not, and what was done: one of them is not the name of a directory, or a directory does not exist and is not created
abbrev pub IsNoFolderAt : List ℕ → FileId → List ℕ → Filed → Filed → Why → Type 0
IsNoFolderAt stamp dir path old new why = (SaysNoFolders path why × (new ≡ old)) ⊎ ((names : List RadName) × SaysFolders path names × IsNoPlaceBelow stamp dir names old new why)

-- the directories of a folder's path exist then
abbrev pub IsFolderPut : List ℕ → FileId → List ℕ → Filed → Filed → Type 0
IsFolderPut stamp dir path old new = (place : FileId) × IsFolderAt stamp dir path old place new

-- how one file is put into a directory, under its name and the given version
abbrev pub put_in : TreeForm → FileId → RadName → Option ℕ → InPut
put_in how place name version = record {
  target = record { directory = place; name = Some name; version = version };
  stamp = how.stamp;
  form = how.form;
  like = None;
  keeps = false;
  placing = Some how.placing;
  owner = how.owner;
  names = None;
  highest = None;
}

-- A file of a tree has been put, as put puts a host file: in the directory that the folders of its path reach, under the name and the version in its
-- own name, or otherwise the next version.
pub record IsLeafPut (how : TreeForm) (dir : FileId) (path bytes : List ℕ) (old new : Filed) : Type 0 where
  pub folders : List (List ℕ)
  pub last : List ℕ
  pub parted : IsParted path folders last
  pub name : RadName
  pub version : Option ℕ
  pub named : IsTreeName last name version
  pub place : FileId
  pub there : Filed
  pub made : IsFolderAt how.stamp dir path old place there
  pub known : InPut
  pub put : IsHostPut (put_in how place name version) path bytes there known new

-- why it has not, and what was done: its own name is not valid, or its directory does not exist, or put does not put such a file
pub data IsLeafUnput (how : TreeForm) (dir : FileId) (path bytes : List ℕ) (old new : Filed) (why : Why) : Type 0 where
  nameless : (folders : List (List ℕ)) (last : List ℕ) → IsParted path folders last → IsNoTreeName last why → new ≡ old → IsLeafUnput how dir path bytes old new why
  unplaced : IsNoFolderAt how.stamp dir path old new why → IsLeafUnput how dir path bytes old new why
  unput : (folders : List (List ℕ)) (last : List ℕ) (name : RadName) (version : Option ℕ) (place : FileId) (there : Filed) → IsParted path folders last → IsTreeName last name version
      → IsFolderAt how.stamp dir path old place there → IsNotPut (put_in how place name version) path bytes there new why → IsLeafUnput how dir path bytes old new why
