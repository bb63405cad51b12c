-- The exit status and the line of each end of a run.
use Rattle.std.specs.Prelude.{ℕ, Bool, true, false, List, codes, Option, Some, None, Result, Ok, Err}
use Rattle.ods_cli.specs.declared.fault.ServeFault.{ServeFault}
use Rattle.ods_cli.specs.declared.fault.ServeFault.TheVariants.{Refused, Read, Write, WriteOut, NoMemory, NoThread, Unmatched}

-- 1 for a refusal, 3 if a device, memory or a thread failed, 4 if the list does not consist of the sessions' calls
abbrev pub fault_status : ServeFault → ℕ
fault_status (Refused number) = 1
fault_status Read = 3
fault_status Write = 3
fault_status (WriteOut fault) = 3
fault_status NoMemory = 3
fault_status NoThread = 3
fault_status Unmatched = 4

-- 0 for the requested reply, 1 for a refusal, otherwise the status of the fault
abbrev pub status_of : Result Bool ServeFault → ℕ
status_of (Ok true) = 0
status_of (Ok false) = 1
status_of (Err fault) = fault_status fault

-- the line on standard error of a run that fails; a refusal has none, as its line is among the replies
abbrev pub line_of : ServeFault → Option (List ℕ)
line_of (Refused number) = None
line_of Read = Some (codes "f11: reading failed")
line_of Write = Some (codes "f11: writing failed")
line_of (WriteOut fault) = Some (codes "f11: writing failed")
line_of NoMemory = Some (codes "f11: no memory")
line_of NoThread = Some (codes "f11: no thread")
line_of Unmatched = Some (codes "f11: unmatched")
