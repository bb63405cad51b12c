-- What a put of a folder of the host leaves.
use Rattle.std.specs.Prelude.{◌≡◌, ℕ, Bool, false, not, List, [], ◌∷◌, length, codes, string_bytes, unwrap_or}
use Rattle.std.specs.Borrow.{Bor}
use Rattle.fs_host.specs.declared.host_tree.TreeEntry.{TreeEntry}
use Rattle.fs_host.specs.declared.host_tree.TreeKind.{TreeKind}
use Rattle.fs_host.specs.declared.host_tree.TreeKind.TheVariants as tree_kind
use Rattle.fs_words.specs.declared.actions.PutWords.{PutWords}
use Rattle.ods_base.specs.declared.file_id.FileId.{FileId}
use Rattle.ods_filing.specs.Filed.{Filed}
use Rattle.ods_upkeep.specs.Ready.{MayHaveGrown}
use Rattle.ods_upkeep.specs.TreePut.{IsFolderPut, IsLeafPut, IsRoot}
use Rattle.ods_upkeep.specs.declared.asked.Placing.TheVariants.{Anywhere}
use Rattle.ods_upkeep.specs.declared.putting_tree.TreeForm.{TreeForm}
use Rattle.f11fs.specs.Dated.{IsHostTime, takes_times}
use Rattle.f11fs.specs.Forms.{form_said, placing_said}
use Rattle.f11fs.specs.Given.{Bytes, HostGives, Tree}
use Rattle.f11fs.specs.TreeFaults.{AreKept, IsHostPath}

-- the first word is a folder of the host, and the second a directory of the volume, or the master directory if there is no second
abbrev pub AreTreeWords : List (Bor (List ℕ)) → List ℕ → List ℕ → Type 0
AreTreeWords [] folder to = ⊥
AreTreeWords (one ∷ []) folder to = (folder ≡ one.now) × (to ≡ codes "[0,0]")
AreTreeWords (one ∷ other ∷ []) folder to = (folder ≡ one.now) × (to ≡ other.now)
AreTreeWords (one ∷ other ∷ third ∷ more) folder to = ⊥

-- how its files are put
abbrev pub tree_form : PutWords → List ℕ → TreeForm
tree_form how stamp = record { stamp = stamp; form = form_said how; placing = unwrap_or (placing_said how) Anywhere; owner = how.owner }

-- A file of the tree in this folder is put, with the bytes that its host file gives. It has the time of the run, or if it is dated the time of its host
-- file.
abbrev pub IsFilePut : HostGives → List ℕ → Bool → TreeForm → FileId → List ℕ → Filed → Filed → Type 0
IsFilePut Gives folder dated how dir path old new =
    (host : List ℕ) × (bytes : List ℕ) × IsHostPath folder path host × Gives host (Bytes bytes) × ((stamp : List ℕ) × IsHostTime (not dated) how.stamp stamp × IsLeafPut (record how { stamp = stamp }) dir path bytes old new)

-- a folder is a directory then, and a file is put; nothing is done of anything else
abbrev pub IsKindPut : TreeKind → HostGives → List ℕ → Bool → TreeForm → FileId → List ℕ → Filed → Filed → Type 0
IsKindPut tree_kind.Folder Gives folder dated how dir path old new = IsFolderPut how.stamp dir path old new
IsKindPut tree_kind.File Gives folder dated how dir path old new = IsFilePut Gives folder dated how dir path old new
IsKindPut tree_kind.Other Gives folder dated how dir path old new = new ≡ old
IsKindPut tree_kind.OwnTree Gives folder dated how dir path old new = new ≡ old
IsKindPut (tree_kind.Unread fault) Gives folder dated how dir path old new = new ≡ old

abbrev pub IsEntryPut : HostGives → List ℕ → Bool → TreeForm → FileId → TreeEntry → Filed → Filed → Type 0
IsEntryPut Gives folder dated how dir entry old new = IsKindPut entry.kind Gives folder dated how dir (string_bytes entry.path) old new

-- these, in order
abbrev pub AreEntriesPut : HostGives → List ℕ → Bool → TreeForm → FileId → List TreeEntry → Filed → Filed → Type 0
AreEntriesPut Gives folder dated how dir [] old new = new ≡ old
AreEntriesPut Gives folder dated how dir (e ∷ entries) old new = (mid : Filed) × IsEntryPut Gives folder dated how dir e old mid × AreEntriesPut Gives folder dated how dir entries mid new

-- The folders and files of the tree that a folder of the host gives are put below the specified directory, which is created if it does not exist.
-- An entry is left out only with `skip`. Before that INDEXF.SYS may get the headers that it lacks for all of them; `timed` is whether the words
-- specify a time. Nothing else was done.
pub record IsTreePut (Gives : HostGives) (timed : Bool) (how : PutWords) (words : List (Bor (List ℕ))) (stamp : List ℕ) (old new : Filed) : Type 0 where
  pub folder : List ℕ
  pub to : List ℕ
  pub said : AreTreeWords words folder to
  pub listed : List TreeEntry
  pub given : Gives folder (Tree listed)
  pub entries : List TreeEntry
  pub kept : AreKept listed entries
  pub whole : how.skip ≡ false → entries ≡ listed
  pub ready : Filed
  pub made_ready : MayHaveGrown (length entries) old ready
  pub dir : FileId
  pub there : Filed
  pub root : IsRoot stamp to ready dir there
  pub put : AreEntriesPut Gives folder (takes_times how timed) (tree_form how stamp) dir entries there new
