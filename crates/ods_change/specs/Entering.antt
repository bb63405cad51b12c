-- The findings of an Enter about a name that can be entered, and when the directory needs one more block.
use Rattle.std.specs.Prelude.{◌≡◌, ℕ, List, MatchResult, Option, None, Result}
use Rattle.std.specs.FinMap.{insert}
use Rattle.ods_base.specs.Name.{RadName, key_of}
use Rattle.ods_base.specs.declared.file_id.FileId.{FileId}
use Rattle.ods_base.specs.declared.file_id.Uic.{Uic}
use Rattle.ods_space.specs.Layout.{VolumeLayout, with_places}
use Rattle.ods_directory.specs.declared.fault.DirFault.{DirFault}
use Rattle.ods_directory.specs.declared.fault.DirFault.TheVariants as fault
use Rattle.ods_directory.specs.Entry.{entry_bytes}
use Rattle.ods_directory.specs.Mark.{IsSlot, grown, written}
use Rattle.ods_directory.specs.Names.{IsDirectory, names_of}
use Rattle.ods_request.specs.declared.refusals.Refusal.{Refusal}
use Rattle.ods_request.specs.declared.refusals.Refusal.TheVariants as refusal
use Rattle.ods_request.specs.declared.requests.Request.TheVariants.{Enter}
use Rattle.ods_request.specs.declared.answers.Answer.TheVariants.{Entered}
use Rattle.ods_request.specs.declared.rights.Right.TheVariants as right
use Rattle.ods_space.specs.Draft.{Changes, applied}
use Rattle.ods_state.specs.Change.{IsAnsweredBy}
use Rattle.ods_state.specs.Served.{IsStepOf, IsRefusalOf}
use Rattle.ods_state.specs.Wants.{HasHeaders, index_growth, lack_of, allocated_blocks, allocated_numbers}
use Rattle.ods_look.specs.Opening.{IsOpenDirectory}
use Rattle.ods_change.specs.declared.beginning.Drafted.{Drafted}
use Rattle.ods_change.specs.declared.entry.NewEntry.{NewEntry}

-- a fault of a directory as a refusal
abbrev pub refusal_of : DirFault → Refusal
refusal_of fault.NoSuchName = refusal.NoSuchName
refusal_of fault.NameTaken = refusal.NameTaken
refusal_of fault.VersionsFull = refusal.VersionsFull

-- The Enter is not refused, and this is the entry that it writes. With the bytes at the slot, after a block of zeros if the slot grows, the directory
-- has one name more.
pub record IsEntryFor (I : List (List ℕ)) (L : VolumeLayout) (who : Uic) (dir : FileId) (name : RadName) (given : Option ℕ) (file : FileId) (new : NewEntry) : Type 0 where
  pub own : IsOpenDirectory I L dir who right.Write new.opened
  pub answered : IsAnsweredBy I L who (Enter dir name given file) (Entered new.version)
  pub slot : IsSlot new.opened.blocks new.opened.mark new.slot
  pub bytes : new.bytes ≡ entry_bytes file (key_of name new.version)
  pub names : names_of (written (grown new.opened.blocks new.slot) new.slot.at new.bytes) new.slot.mark
      ≡ insert (names_of new.opened.blocks new.opened.mark) (key_of name new.version) file
  pub stays : IsDirectory (written (grown new.opened.blocks new.slot) new.slot.at new.bytes) new.slot.mark

-- and the entry has its volume and its directory
pub record IsNewEntry (I : List (List ℕ)) (L : VolumeLayout) (who : Uic) (dir : FileId) (name : RadName) (given : Option ℕ) (file : FileId) (new : NewEntry) : Type 0 where
  pub image : new.disk.image.now ≡ I
  pub layout : new.disk.layout.now ≡ L
  pub directory : new.dir ≡ dir
  pub entry : IsEntryFor I L who dir name given file new

-- some Enter in this directory writes this entry
abbrev pub IsSomeEntry : List (List ℕ) → VolumeLayout → FileId → NewEntry → Type 0
IsSomeEntry I L dir new = (who : Uic) × (name : RadName) × (given : Option ℕ) × (file : FileId) × IsEntryFor I L who dir name given file new

-- the blocks J, by the layout M, are the volume after each Enter in this directory that writes this entry
abbrev pub IsEntering : List (List ℕ) → VolumeLayout → FileId → NewEntry → List (List ℕ) → VolumeLayout → Type 0
IsEntering I L dir new J M = (who : Uic) (name : RadName) (given : Option ℕ) (file : FileId) → IsEntryFor I L who dir name given file new
    → IsStepOf I L who (Enter dir name given file) (Entered new.version) J M

-- each such Enter is refused for this reason
abbrev pub IsWhyNotEntering : List (List ℕ) → VolumeLayout → FileId → NewEntry → Refusal → Type 0
IsWhyNotEntering I L dir new f = (who : Uic) (name : RadName) (given : Option ℕ) (file : FileId) → IsEntryFor I L who dir name given file new → IsRefusalOf I L who (Enter dir name given file) f

-- some Enter writes this entry, in its directory and on its volume
abbrev pub IsOwnEntry : NewEntry → Type 0
IsOwnEntry new = IsSomeEntry new.disk.image.now new.disk.layout.now new.dir new

-- the draft carries out each such Enter, and the layout stays; or this is the refusal
abbrev pub IsOwnEntering : NewEntry → Result Changes Refusal → Type 0
IsOwnEntering new result = MatchResult result (λ draft. IsEntering new.disk.image.now new.disk.layout.now new.dir new (applied new.disk.image.now draft) new.disk.layout.now) (IsWhyNotEntering new.disk.image.now new.disk.layout.now new.dir new)

-- the draft carries out each such Enter, with these blocks for INDEXF.SYS; or this is the refusal
abbrev pub IsOwnGrowing : NewEntry → Result Drafted Refusal → Type 0
IsOwnGrowing new result = MatchResult result (λ d. IsEntering new.disk.image.now new.disk.layout.now new.dir new (applied new.disk.image.now d.draft) (with_places new.disk.layout.now d.places.items)) (IsWhyNotEntering new.disk.image.now new.disk.layout.now new.dir new)

-- directory n takes this block, and these numbers for its headers; INDEXF.SYS has a block for each number
abbrev pub IsAllocatedFor : List (List ℕ) → VolumeLayout → ℕ → List ℕ → List ℕ → Type 0
IsAllocatedFor I L n blocks numbers = (headers old : List ℕ) → HasHeaders I L n headers old
    → (blocks ≡ allocated_blocks I L 1) × (numbers ≡ allocated_numbers I L headers 1) × (lack_of I L headers 1 ≡ None) × (index_growth L (allocated_numbers I L headers 1) ≡ 0)
