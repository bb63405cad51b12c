-- How a run ends that changes an image: what is locked, and what of it is saved.
use Rattle.std.specs.Prelude.{◌≡◌, ◌⊎◌, ℕ, List, Bool, Result, Ok, Err, IsTrue}
use Rattle.std.specs.Borrow.{Bor}
use Rattle.fs_host.specs.Faults.{may_end_locking, may_end_storing, may_end_copying}
use Rattle.fs_host.specs.declared.faults.SaveFault.{SaveFault}
use Rattle.fs_reads.specs.Volumes.{IsNoVolume}
use Rattle.fs_reads.specs.declared.stop.Stop.{Stop}
use Rattle.fs_reads.specs.declared.stop.Stop.TheVariants as stop
use Rattle.fs_reads.specs.declared.stop.WordFault.TheVariants as word
use Rattle.fs_reads.specs.declared.volume.VolumeFault.{VolumeFault}
use Rattle.ods_shell.specs.declared.status.Status.{Status}
use Rattle.ods_shell.specs.declared.status.Status.TheVariants as status
use Rattle.f11fs.specs.declared.changing.Finished.{Finished}
use Rattle.f11fs.specs.declared.changing.Finished.TheVariants as ended

-- all is done, or the host left something undone after an image was saved
abbrev pub IsSavedStatus : Status → Type 0
IsSavedStatus s = (s ≡ status.Done) ⊎ (s ≡ status.Host)

-- the status of a run that ended this way
abbrev pub EndsSaved : Finished → Type 0
EndsSaved (ended.Told s) = s ≡ status.Done
EndsSaved (ended.Saved s) = IsSavedStatus s

-- why an image is not locked
abbrev pub IsNotLocked : Bor (List ℕ) → Bool → Bool → Stop → Type 0
IsNotLocked path writes force s = (fault : SaveFault) × IsTrue (may_end_locking writes force fault) × (s ≡ stop.Word path (word.Unsaved fault))

-- why a locked image has no volume that may be changed
abbrev pub IsNotRead : Bor (List ℕ) → Stop → Type 0
IsNotRead path s = (((fault : VolumeFault) × IsNoVolume path fault s) ⊎ (s ≡ stop.NoMemory)) ⊎ (s ≡ stop.Word path word.Lacking)

-- the image, which may be a floppy in physical order, is saved in a new file at this path, or the reason why it is not is returned
abbrev pub IsWrittenTo : Bool → Bor (List ℕ) → Result Finished Stop → Type 0
IsWrittenTo floppy path (Ok f) = (s : Status) × (f ≡ ended.Saved s)
IsWrittenTo floppy path (Err s) = (fault : SaveFault) × IsTrue (may_end_copying floppy fault) × (s ≡ stop.Word path (word.Unsaved fault))

-- why an image is not saved in its own file: it is shorter than its volume, or the host does not accept it
abbrev pub IsNotSaved : Bor (List ℕ) → Bool → Bool → Bool → Bool → Stop → Type 0
IsNotSaved path floppy force backup break_links s =
    (s ≡ stop.Word path word.Short)
    ⊎ ((fault : SaveFault) × IsTrue (may_end_storing floppy force backup break_links fault) × (s ≡ stop.Word path (word.Unsaved fault)))
