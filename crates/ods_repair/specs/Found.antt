-- Lost files are entered in a directory with the names in their headers: the requests, their result, and the reason why not all are made.
use Rattle.std.specs.Prelude.{◌≡◌, ◌↔◌, ℕ, ◌<◌, List, None}
use Rattle.std.specs.List.{All, Contains}
use Rattle.ods_base.specs.declared.file_id.FileId.{FileId}
use Rattle.ods_base.specs.declared.listed.Listed.{Listed}
use Rattle.ods_base.specs.Name.{IsName, RadName}
use Rattle.ods_header.specs.Header.{ident_of}
use Rattle.ods_space.specs.Layout.{VolumeLayout, header_at}
use Rattle.ods_request.specs.declared.requests.Request.{Request as Asked}
use Rattle.ods_request.specs.declared.requests.Request.TheVariants.{Enter}
use Rattle.ods_check.specs.Findings.{HasName, IsLostFile, id_at}
use Rattle.ods_check.specs.Lists.{AreInOrder}
use Rattle.ods_remains.specs.Idents.{name_in}
use Rattle.ods_filing.specs.Filed.{Filed}
use Rattle.ods_repair.specs.Asked.{AsksAll, StopsAt}
use Rattle.ods_repair.specs.Kept.{KeepsFiles}
use Rattle.ods_repair.specs.declared.fault.RepairFault.{RepairFault}
use Rattle.ods_repair.specs.declared.fault.RepairFault.TheVariants.{NoMemory, NotEntered}
use Rattle.ods_repair.specs.declared.lost_file.LostFile.{LostFile}

-- the name in the header of file n
abbrev pub name_at : List (List ℕ) → VolumeLayout → ℕ → RadName
name_at I L n = name_in (ident_of (header_at I L n))

-- file n is lost, and the words in its header spell a valid name
abbrev pub CanBeNamed : List (List ℕ) → VolumeLayout → ℕ → Type 0
CanBeNamed I L n = IsLostFile I L n × IsName (name_at I L n)

-- These are all lost files whose headers have names, in ascending order of their numbers, each with that name and its ID.
pub record AreNamed (I : List (List ℕ)) (L : VolumeLayout) (found : List LostFile) : Type 0 where
  pub each : All (λ x. CanBeNamed I L x.file.number × (x.file ≡ id_at I L x.file.number) × (x.name ≡ name_at I L x.file.number)) found
  pub all : (n : ℕ) → CanBeNamed I L n → Contains found (record { file = id_at I L n; name = name_at I L n })
  pub rising : AreInOrder (λ x y. x.file.number < y.file.number) found

-- the request that enters a file in this directory, with the next version of its name
abbrev pub entry_of : FileId → LostFile → Asked
entry_of dir x = Enter dir x.name None x.file

-- Each lost file whose header has a name was entered in the directory under that name, in this order, and nothing else was done.
pub record IsFound (old : Filed) (dir : FileId) (found : List LostFile) (new : Filed) : Type 0 where
  pub are : AreNamed old.image old.layout found
  pub entered : AsksAll (entry_of dir) old found new
  pub files : KeepsFiles old new
  -- exactly the files that were lost and whose headers have no name are lost
  pub left : (n : ℕ) → IsLostFile new.image new.layout n ↔ (IsLostFile old.image old.layout n × ¬ IsName (name_at old.image old.layout n))
  -- each earlier name still exists, and names the same file
  pub kept : (d : ℕ) (line : Listed) → HasName old.image old.layout d line → HasName new.image new.layout d line

-- The reason why not all of them were entered. There is no memory for their list, and the volume is unchanged. Or the earlier files were entered,
-- and this one was not, for a reason that is not a right.
abbrev pub IsNotFound : Filed → FileId → Filed → RepairFault → Type 0
IsNotFound old dir new NoMemory = new ≡ old
IsNotFound old dir new (NotEntered x reason) = (found : List LostFile) × AreNamed old.image old.layout found × StopsAt (entry_of dir) old found new x reason
IsNotFound old dir new _ = ⊥
