-- The faults that a host function may return.
use Rattle.std.specs.Prelude.{Bool, true, false, not, ◌&&◌, ◌||◌}
use Rattle.fs_host.specs.declared.host_fault.HostFault.{HostFault}
use Rattle.fs_host.specs.declared.host_fault.HostFault.TheVariants.{NotPlain, Held, Changed, Left, IsThere, Denied, Unsupported}
use Rattle.fs_host.specs.declared.faults.SaveFault.{SaveFault}
use Rattle.fs_host.specs.declared.faults.SaveFault.TheVariants.{Read, Lock, InUse, Links, Make, Mode, Write, Differs, Unfit, Backup, Rename, NoMemory}
use Rattle.fs_host.specs.declared.faults.SaveFault.TheVariants.{NotPlain as ImageNotPlain, Held as ImageHeld, Changed as ImageChanged, Denied as ImageDenied, IsThere as ImageIsThere}
use Rattle.fs_host.specs.declared.faults.Unfinished.{Unfinished}
use Rattle.fs_host.specs.declared.faults.Unfinished.TheVariants.{Unsynced}
use Rattle.fs_host.specs.declared.faults.Unfinished.TheVariants.{Left as HiddenLeft}

-- the host itself returns this reason: only this crate finds the others
abbrev pub is_reason : HostFault → Bool
is_reason NotPlain = false
is_reason Held = false
is_reason Changed = false
is_reason Left = false
is_reason _ = true

-- a reason other than that the file is there
abbrev pub is_reason_but_there : HostFault → Bool
is_reason_but_there IsThere = false
is_reason_but_there fault = is_reason fault

-- a reason other than that the host denies permission
abbrev pub is_reason_but_denied : HostFault → Bool
is_reason_but_denied Denied = false
is_reason_but_denied fault = is_reason fault

-- a reason other than that the file system does not support the call
abbrev pub is_reason_but_unsupported : HostFault → Bool
is_reason_but_unsupported Unsupported = false
is_reason_but_unsupported fault = is_reason fault

-- the reason why no path of a plain file, or of nothing, is found
abbrev pub may_end_path : HostFault → Bool
may_end_path NotPlain = true
may_end_path fault = is_reason fault

-- the reason why a new file does not begin, or the file in its way is not removed
abbrev pub may_end_beginning : HostFault → Bool
may_end_beginning NotPlain = true
may_end_beginning Held = true
may_end_beginning fault = is_reason fault

-- the reason why a new file does not receive its name
abbrev pub may_end_naming : HostFault → Bool
may_end_naming Changed = true
may_end_naming fault = is_reason fault

-- the same, or that the hidden name stays; with `replaces` the file then has no other name
abbrev pub may_end_finish : Bool → HostFault → Bool
may_end_finish replaces Left = not replaces
may_end_finish replaces fault = may_end_naming fault

-- the same for a file that replaces none: an existing file is reported separately, and a hidden name that stays is no fault
abbrev pub may_refuse_name : HostFault → Bool
may_refuse_name IsThere = false
may_refuse_name fault = may_end_naming fault

-- the reason why an image is not opened, for a change that writes it or for another one
abbrev pub may_end_opening : Bool → SaveFault → Bool
may_end_opening writes (Read fault) = is_reason fault
may_end_opening writes ImageNotPlain = true
may_end_opening writes ImageDenied = writes
may_end_opening writes (Write fault) = writes && is_reason_but_denied fault
may_end_opening writes _ = false

-- the reason why an image is changed, or not exclusive; without `force` another process is checked
abbrev pub may_end_asking : Bool → SaveFault → Bool
may_end_asking force ImageChanged = true
may_end_asking force (InUse holder) = not force
may_end_asking force _ = false

-- the reason why an image is not locked
abbrev pub may_end_locking : Bool → Bool → SaveFault → Bool
may_end_locking writes force ImageHeld = true
may_end_locking writes force (Lock fault) = is_reason fault
may_end_locking writes force ImageChanged = true
may_end_locking writes force (InUse holder) = not (force || not writes)
may_end_locking writes force fault = may_end_opening writes fault

-- the reason why the old image is not kept
abbrev pub may_end_keeping : SaveFault → Bool
may_end_keeping ImageChanged = true
may_end_keeping (Backup fault) = is_reason fault
may_end_keeping _ = false

-- the reason why a new file does not have the bytes of an image
abbrev pub may_end_filling : SaveFault → Bool
may_end_filling Differs = true
may_end_filling (Write fault) = is_reason fault
may_end_filling _ = false

-- the reason why a new file does not receive the owner of another file
abbrev pub may_end_giving : SaveFault → Bool
may_end_giving (Mode fault) = is_reason fault
may_end_giving _ = false

-- the reason why an old image may not be replaced: another process is checked without `force`, and the old image is kept with `backup`
abbrev pub may_end_leaving : Bool → Bool → SaveFault → Bool
may_end_leaving force backup (Backup fault) = backup && is_reason fault
may_end_leaving force backup NoMemory = backup
may_end_leaving force backup fault = may_end_asking force fault

-- the reason why an image is not saved: its names are checked without `break_links`
abbrev pub may_end_saving : Bool → Bool → Bool → SaveFault → Bool
may_end_saving force backup break_links NoMemory = true
may_end_saving force backup break_links Links = not break_links
may_end_saving force backup break_links (Make fault) = may_end_beginning fault
may_end_saving force backup break_links (Mode fault) = is_reason fault
may_end_saving force backup break_links (Write fault) = is_reason fault
may_end_saving force backup break_links Differs = true
may_end_saving force backup break_links (Rename fault) = may_end_finish true fault
may_end_saving force backup break_links fault = may_end_leaving force backup fault

-- the same for an image that may be a floppy in physical order: a volume of another size does not fit there
abbrev pub may_end_storing : Bool → Bool → Bool → Bool → SaveFault → Bool
may_end_storing floppy force backup break_links Unfit = floppy
may_end_storing floppy force backup break_links fault = may_end_saving force backup break_links fault

-- the reason why an image is not written to a new file
abbrev pub may_end_writing : SaveFault → Bool
may_end_writing ImageIsThere = true
may_end_writing (Make fault) = may_end_beginning fault
may_end_writing (Rename fault) = may_refuse_name fault
may_end_writing fault = may_end_filling fault

-- the same for an image that may be a floppy in physical order
abbrev pub may_end_copying : Bool → SaveFault → Bool
may_end_copying floppy Unfit = floppy
may_end_copying floppy fault = may_end_writing fault

-- the incomplete step is the sync of a folder, for this reason
abbrev pub is_unsynced : Unfinished → Bool
is_unsynced (Unsynced fault) = is_reason_but_unsupported fault
is_unsynced HiddenLeft = false

-- the same, or the removal of a hidden name
abbrev pub may_be_wanting : Unfinished → Bool
may_be_wanting HiddenLeft = true
may_be_wanting unfinished = is_unsynced unfinished
