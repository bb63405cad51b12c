-- The directory below which a tree goes, and those of its folders.
use Rattle.std.proofs.Common.{◌≡◌, ℕ, List, Option, Result, Ok, Err, inr, subst}
use Rattle.std.specs.Prelude.{IfErr, IfOk, MatchResult, OnOk}
use Rattle.ods_base.specs.Name.{RadName}
use Rattle.ods_base.specs.declared.file_id.FileId.{FileId}
use Rattle.ods_filing.specs.Filed.{Filed}
use Rattle.ods_upkeep.specs.CopiedTree.{IsPlaceBelow}
use Rattle.ods_upkeep.specs.HostPut.{IsHostPut}
use Rattle.ods_upkeep.specs.Left.{InPut}
use Rattle.ods_upkeep.specs.TreeNames.{IsTreeName, SaysFolders}
use Rattle.ods_upkeep.specs.TreePut.{IsFolderAt, IsLeafPut, IsLeafUnput, IsNoFolderAt, IsNoRoot, IsRoot, put_in, unput}
use Rattle.ods_upkeep.specs.UncopiedTree.{IsNoPlaceBelow}
use Rattle.ods_upkeep.specs.Unput.{IsNotPut}
use Rattle.ods_upkeep.specs.Wayside.{IsNotOpen, IsOpen, IsParted, IsThereThen}
use Rattle.ods_upkeep.specs.declared.failure.Why.{Why}
use Rattle.ods_upkeep.specs.declared.putting_tree.TreeForm.{TreeForm}

-- the directory is there, and takes names or not
pub root_ends : (r : Result FileId Why) (stamp to : List ℕ) (old new : Filed) → IsThereThen stamp to old new → MatchResult r (IsOpen new.image new.layout to) (IsNotOpen new.image new.layout to)
    → MatchResult r (λ dir. IsRoot stamp to old dir new) (IsNoRoot stamp to old new)
root_ends (Ok dir) stamp to old new there takes = (there, takes)
root_ends (Err why) stamp to old new there none = inr (there, none)

-- the folders are named, and are there or not
pub folder_ends : (r : Result FileId Why) (stamp : List ℕ) (dir : FileId) (path : List ℕ) (names lent : List RadName) (old new : Filed) → SaysFolders path names → lent ≡ names
    → IfOk r (λ place. IsPlaceBelow stamp dir lent old place new) → IfErr r (IsNoPlaceBelow stamp dir lent old new)
    → MatchResult r (λ place. IsFolderAt stamp dir path old place new) (IsNoFolderAt stamp dir path old new)
folder_ends (Ok place) stamp dir path names lent old new says is placed none = (names, says, subst (λ ns. IsPlaceBelow stamp dir ns old place new) is placed)
folder_ends (Err why) stamp dir path names lent old new says is placed none = inr (names, says, subst (λ ns. IsNoPlaceBelow stamp dir ns old new why) is none)

-- a file is put, or not, when its directory is there
pub leaf_ends : {A : Type 0} (r : Result A Why) (how : TreeForm) (dir : FileId) (path bytes : List ℕ) (old there new : Filed) (folders : List (List ℕ)) (last : List ℕ) (name : RadName) (version : Option ℕ) (place : FileId) (p q : InPut)
    → p ≡ put_in how place name version → IsParted path folders last → IsTreeName last name version → IsFolderAt how.stamp dir path old place there → OnOk r (IsHostPut p path bytes there q new) → IfErr r (IsNotPut p path bytes there new)
    → MatchResult r (λ _. IsLeafPut how dir path bytes old new) (IsLeafUnput how dir path bytes old new)
leaf_ends (Ok x) how dir path bytes old there new folders last name version place p q is parted named made done none = record {
  folders = folders;
  last = last;
  parted = parted;
  name = name;
  version = version;
  named = named;
  place = place;
  there = there;
  made = made;
  known = q;
  put = subst (λ (v : InPut). IsHostPut v path bytes there q new) is done;
}
leaf_ends (Err why) how dir path bytes old there new folders last name version place p q is parted named made done none =
    unput folders last name version place there parted named made (subst (λ (v : InPut). IsNotPut v path bytes there new why) is none)
