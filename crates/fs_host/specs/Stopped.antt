-- The report of a stopped save.
use Rattle.fs_saving.specs.declared.unsaved.Unsaved.{Unsaved}
use Rattle.fs_saving.specs.declared.unsaved.Unsaved.TheVariants as unsaved
use Rattle.fs_host.specs.declared.faults.SaveFault.{SaveFault}
use Rattle.fs_host.specs.declared.faults.SaveFault.TheVariants.{Differs}

-- the reported fault: the fault of the host, or that the bytes that were read back differ from the written ones
abbrev pub fault_told : Unsaved SaveFault → SaveFault
fault_told (unsaved.Make fault) = fault
fault_told (unsaved.Write fault) = fault
fault_told unsaved.Differs = Differs
fault_told (unsaved.Rename fault) = fault
