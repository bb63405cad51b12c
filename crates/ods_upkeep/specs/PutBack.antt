-- The result of put -r for a file of the host, and what get gives of it: laws over definitions only.
use Rattle.std.specs.Prelude.{◌≡◌, ℕ, List, [], ◌∷◌, length, take, Option, Some, None, IfSome}
use Rattle.std.specs.List.{All}
use Rattle.ods_base.specs.Name.{RadName}
use Rattle.ods_base.specs.declared.file_id.FileId.{FileId}
use Rattle.ods_request.specs.Catalogue.{Catalogue}
use Rattle.ods_state.specs.Contents.{ShowsBy}
use Rattle.ods_filing.specs.Filed.{Filed}
use Rattle.ods_filing.specs.Laws.{GivesBack, ShowsBytes}
use Rattle.ods_filing.specs.Put.{blocks_with}
use Rattle.ods_records.specs.declared.kind.Wanted.TheVariants.{ByKind}
use Rattle.ods_shell.specs.Contents.{IsGot, IsNotGot}
use Rattle.ods_shell.specs.declared.form.FormFault.{FormFault}
use Rattle.ods_shell.specs.declared.form.FormFault.TheVariants.{NoMemory}
use Rattle.ods_shell.specs.declared.form.Remark.{Remark}
use Rattle.ods_space.specs.Layout.{VolumeLayout}
use Rattle.ods_upkeep.specs.CopiesThere.{IsCopyIn, IsWayIn, LeavesAll}
use Rattle.ods_upkeep.specs.Kept.{IsKept}
use Rattle.ods_upkeep.specs.TreeNames.{IsTreeName, SaysFolders}
use Rattle.ods_upkeep.specs.TreePut.{IsFolderPut, IsLeafPut}
use Rattle.ods_upkeep.specs.Wayside.{IsParted}
use Rattle.ods_upkeep.specs.Written.{IsWritten}
use Rattle.ods_upkeep.specs.declared.asked.PutForm.{PutForm}
use Rattle.ods_upkeep.specs.declared.asked.PutForm.TheVariants as form
use Rattle.ods_upkeep.specs.declared.putting_tree.TreeForm.{TreeForm}

-- the form is chosen by the contents, or the bytes are written unchanged; a requested text may get a last LF, and of a form of four bytes `get`
-- chooses
abbrev pub KeepsBytes : PutForm → Type 0
KeepsBytes form.ByContents = Unit {0}
KeepsBytes form.Binary = Unit {0}
KeepsBytes form.Text = ⊥
KeepsBytes (form.Said four) = ⊥

-- A file of a tree of the host exists, under the names in its path, and gives back the written bytes.
pub record IsLeafBack (how : TreeForm) (dir : FileId) (path bytes : List ℕ) (new : Filed) : Type 0 where
  -- the directories in the path, and the directory that they reach
  pub names : List RadName
  pub says : SaysFolders path names
  pub place : FileId
  pub way : (D : Catalogue) → ShowsBy new.image new.layout D → IsWayIn D dir names place
  -- the name and the version in the file's own name
  pub folders : List (List ℕ)
  pub last : List ℕ
  pub parted : IsParted path folders last
  pub name : RadName
  pub version : Option ℕ
  pub named : IsTreeName last name version
  -- the written bytes, and the file that each catalogue has
  pub attributes : List ℕ
  pub stored : List ℕ
  pub written : IsWritten how.form None bytes attributes stored
  pub id : FileId
  pub there : (D : Catalogue) → ShowsBy new.image new.layout D → IsCopyIn D place name version how.stamp attributes (blocks_with stored) id
  -- `get -b` gives the written bytes; `get` gives exactly the bytes of the host file, and fails only out of memory
  pub gives : GivesBack new.image new.layout id.number attributes stored
  pub got : KeepsBytes how.form → (given : List ℕ) (said : Option Remark) → IsGot new.image new.layout id.number ByKind given said → given ≡ bytes
  pub fails : KeepsBytes how.form → (fault : FormFault) → IsNotGot new.image new.layout id.number ByKind fault → fault ≡ NoMemory

-- A file of a tree that was put exists, and `get` gives its bytes again. Everything that was there is left.
abbrev pub LeafComesBack : Type 0
LeafComesBack = (how : TreeForm) (dir : FileId) (path bytes : List ℕ) (old new : Filed) (C : Catalogue) → ShowsBy old.image old.layout C → IsLeafPut how dir path bytes old new
    → IsLeafBack how dir path bytes new × LeavesAll old new

-- The directories of a folder's path exist.
pub record IsFolderThere (dir : FileId) (path : List ℕ) (new : Filed) : Type 0 where
  pub names : List RadName
  pub says : SaysFolders path names
  pub place : FileId
  pub way : (D : Catalogue) → ShowsBy new.image new.layout D → IsWayIn D dir names place

-- an entry of a tree: a folder, with the date of its directory, or a file with its bytes
pub data TreeItem : Type 0 where
  AFolder : List ℕ → List ℕ → TreeItem
  AFile : TreeForm → List ℕ → List ℕ → TreeItem

-- it is put below this directory
abbrev pub IsItemPut : FileId → TreeItem → Filed → Filed → Type 0
IsItemPut dir (AFolder stamp path) old new = IsFolderPut stamp dir path old new
IsItemPut dir (AFile how path bytes) old new = IsLeafPut how dir path bytes old new

-- these are put, in order
abbrev pub AreItemsPut : FileId → List TreeItem → Filed → Filed → Type 0
AreItemsPut dir [] old new = new ≡ old
AreItemsPut dir (item ∷ items) old new = (mid : Filed) × IsItemPut dir item old mid × AreItemsPut dir items mid new

-- it exists
abbrev pub IsItemBack : FileId → Filed → TreeItem → Type 0
IsItemBack dir new (AFolder stamp path) = IsFolderThere dir path new
IsItemBack dir new (AFile how path bytes) = IsLeafBack how dir path bytes new

-- Folders and files of a tree that are put in order exist at the end, and `get` gives the bytes of each file again. Everything that was there is
-- left.
abbrev pub TreeComesBack : Type 0
TreeComesBack = (dir : FileId) (items : List TreeItem) (old new : Filed) (C : Catalogue) → ShowsBy old.image old.layout C → AreItemsPut dir items old new
    → All (IsItemBack dir new) items × LeavesAll old new

-- F.RTYP and F.RATT are those of the model file, if there is one
abbrev pub HasFormOf : Option (List ℕ) → List ℕ → Type 0
HasFormOf None attributes = Unit {0}
HasFormOf (Some own) attributes = take 2 attributes ≡ take 2 own

-- File n gives back the stored bytes. `get` gives exactly the bytes of the host file, and fails only out of memory. The form is that of the model file.
pub record IsKeptBack (I : List (List ℕ)) (L : VolumeLayout) (n : ℕ) (own : Option (List ℕ)) (bytes attributes stored : List ℕ) : Type 0 where
  pub formed : HasFormOf own attributes
  pub gives : GivesBack I L n attributes stored
  pub got : (given : List ℕ) (said : Option Remark) → IsGot I L n ByKind given said → given ≡ bytes
  pub fails : (fault : FormFault) → IsNotGot I L n ByKind fault → fault ≡ NoMemory

-- A file in the form that put keeps of the version before comes back: its form is that of the version before, or chosen by its contents.
abbrev pub KeptComesBack : Type 0
KeptComesBack = (I : List (List ℕ)) (L : VolumeLayout) (id : FileId) (before : Option (List ℕ)) (bytes : List ℕ) (chosen : PutForm) (own : Option (List ℕ)) (attributes stored : List ℕ)
    → IfSome before (λ a. length a ≡ 32) → IsKept before bytes chosen own → IsWritten chosen own bytes attributes stored → ShowsBytes I L id attributes stored
    → IsKeptBack I L id.number own bytes attributes stored
