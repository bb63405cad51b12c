-- The contents of a deleted file whose headers are still present.
use Rattle.std.specs.Prelude.{◌≡◌, ◌⊎◌, ℕ, Bool, false, true, not, List, length, map, string_bytes, Option, Some, None, if◌then◌else◌}
use Rattle.ods_base.specs.Block.{zeros}
use Rattle.ods_base.specs.Image.{block_at}
use Rattle.ods_base.specs.declared.file_id.FileId.{FileId}
use Rattle.ods_header.specs.Header.{attributes_of}
use Rattle.ods_space.specs.Free.{is_free_block}
use Rattle.ods_space.specs.Layout.{VolumeLayout}
use Rattle.ods_files.specs.Body.{Body, bytes_in}
use Rattle.ods_records.specs.declared.kind.Wanted.{Wanted}
use Rattle.ods_records.specs.declared.kind.Wanted.TheVariants.{Raw}
use Rattle.ods_remains.specs.Deleted.{IsDeletedFile, IsFormerFile, former}
use Rattle.ods_remains.specs.Shared.{IsWhole}
use Rattle.ods_remains.specs.declared.former.DeletedFile.{DeletedFile}
use Rattle.ods_shell.specs.Contents.{IsGotBy, IsNotGotBy, form_got}
use Rattle.ods_shell.specs.Deleted.{IsDeletionBy, deleted_id}
use Rattle.ods_shell.specs.Facts.{HasCondition, facts_in}
use Rattle.ods_shell.specs.Texts.{shown_id}
use Rattle.ods_shell.specs.declared.facts.Condition.{Condition}
use Rattle.ods_shell.specs.declared.form.Remark.{Remark}
use Rattle.ods_shell.specs.declared.former.Former.{Former}
use Rattle.ods_shell.specs.declared.former.FormerFault.{FormerFault}
use Rattle.ods_shell.specs.declared.former.FormerFault.TheVariants as fault

-- the block at this LBN if it is free; zeros if it is used again, or if the image lacks it
abbrev pub left_block : List (List ℕ) → VolumeLayout → ℕ → List ℕ
left_block I L lbn = if is_free_block I L lbn then block_at I lbn else zeros

-- the remains of the deleted file n, whose headers name these blocks: its free blocks, and the attributes of its first header
abbrev pub left_body : List (List ℕ) → VolumeLayout → ℕ → List ℕ → Body
left_body I L n lbns = record { blocks = map (left_block I L) lbns; attributes = attributes_of (former I L n) }

-- this LBN if it is free, otherwise the first LBN that the image lacks
abbrev pub left_lbn : List (List ℕ) → VolumeLayout → ℕ → ℕ
left_lbn I L lbn = if is_free_block I L lbn then lbn else length I

-- this is the ID of a deleted file
abbrev pub IsFormerId : List (List ℕ) → VolumeLayout → FileId → Type 0
IsFormerId I L id = IsDeletedFile I L id.number × (id ≡ deleted_id I L id.number)

-- the deleted file with this ID has this chain
pub record HasChain (I : List (List ℕ)) (L : VolumeLayout) (id : FileId) (chain : DeletedFile) : Type 0 where
  pub follows : IsFormerFile I L id.number chain
  pub own : id ≡ deleted_id I L id.number

-- the facts of the deleted file with this ID: its remains by its chain, and its facts by its first header, if a path selects it by its ID
pub record IsFormerBy (I : List (List ℕ)) (L : VolumeLayout) (id : FileId) (f : Former) : Type 0 where
  pub chain : HasChain I L id f.file
  pub known : IsDeletionBy I L id.number f.file.headers.items f.file.blocks.items f.file.is_cut f.known
  pub path : string_bytes f.found.path ≡ shown_id id
  pub place : f.found.place ≡ None
  pub condition : Condition
  pub there : HasCondition (length I) f.file.blocks.items (not f.file.is_cut) condition
  pub facts : f.found.facts ≡ Some (facts_in id.number (former I L id.number) f.known.blocks condition)

-- these are the facts of a deleted file
abbrev pub IsFormer : List (List ℕ) → VolumeLayout → Former → Type 0
IsFormer I L f = IsFormerBy I L f.known.file f

-- The contents of the remains: in the requested form; or all its blocks, if parts are requested and the end of file is past them.
abbrev pub IsGotOfLeft : Wanted → Bool → Body → List ℕ → Option Remark → Type 0
IsGotOfLeft wanted partial body bytes said = IsGotBy wanted body bytes said ⊎ ((partial ≡ true) × (bytes_in (form_got wanted) body ≡ None) × IsGotBy Raw body bytes said)

-- These are the contents of the deleted file with this ID, from its remains, with this remark. If parts are not requested, the file is whole.
pub record IsUndeleted (I : List (List ℕ)) (L : VolumeLayout) (id : FileId) (wanted : Wanted) (partial : Bool) (bytes : List ℕ) (said : Option Remark) : Type 0 where
  pub file : DeletedFile
  pub chain : HasChain I L id file
  pub whole : partial ≡ false → IsWhole I L id.number file.blocks.items file.is_cut
  pub got : IsGotOfLeft wanted partial (left_body I L id.number file.blocks.items) bytes said

-- The reason why the contents of the deleted file with this ID are refused: parts are not requested, and it is not whole; or its remains are not
-- available in the requested form.
abbrev pub IsNotUndeleted : List (List ℕ) → VolumeLayout → FileId → Wanted → Bool → FormerFault → Type 0
IsNotUndeleted I L id wanted partial (fault.NotWhole d) =
    (partial ≡ false) × (file : DeletedFile) × HasChain I L id file × IsDeletionBy I L id.number file.headers.items file.blocks.items file.is_cut d × ¬ IsWhole I L id.number file.blocks.items file.is_cut
IsNotUndeleted I L id wanted partial (fault.Form why) =
    (file : DeletedFile) × HasChain I L id file × (partial ≡ false → IsWhole I L id.number file.blocks.items file.is_cut)
    × IsNotGotBy wanted (left_body I L id.number file.blocks.items) why
