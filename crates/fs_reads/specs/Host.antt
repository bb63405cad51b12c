-- What exists at a path of the host, and how the writing of a file there ends.
use Rattle.std.specs.Prelude.{◌≡◌, ◌≢◌, ◌⊎◌, Bool, true, false, IsTrue}
use Rattle.std.specs.declared.io.Error.{Error}
use Rattle.fs_host.specs.Faults.{is_reason, may_end_finish}
use Rattle.fs_host.specs.Reasons.{reason_of}
use Rattle.fs_host.specs.declared.host_fault.HostFault.{HostFault}
use Rattle.fs_host.specs.declared.host_fault.HostFault.TheVariants.{NoMemory, NotThere}
use Rattle.fs_reads.specs.declared.host_files.There.{There}
use Rattle.fs_reads.specs.declared.host_files.There.TheVariants as there
use Rattle.fs_reads.specs.declared.host_files.Written.{Written}
use Rattle.fs_reads.specs.declared.host_files.Written.TheVariants as written

-- the state of a path that the host does not look at: nothing exists there, or it is closed
abbrev pub unseen_by : HostFault → There
unseen_by NotThere = there.Nothing
unseen_by why = there.Closed why

-- an existing file is kept only if nothing is to be replaced, and a path with nothing there is not closed
abbrev pub IsFoundThere : Bool → There → Type 0
IsFoundThere replaces there.Nothing = Unit {0}
IsFoundThere replaces there.Kept = replaces ≡ false
IsFoundThere replaces (there.Plain old) = replaces ≡ true
IsFoundThere replaces there.Stream = replaces ≡ true
IsFoundThere replaces (there.Closed why) = why ≢ NotThere

-- how the writing of a file would end, as far as it can be determined without writing
abbrev pub WouldEnd : Bool → Written → Type 0
WouldEnd replaces written.Done = Unit {0}
WouldEnd replaces written.IsThere = replaces ≡ false
WouldEnd replaces (written.Unmade why) = why ≢ NotThere
WouldEnd replaces (written.Failed why) = ⊥

-- the host reports this fault of a call, or memory was refused
abbrev pub IsSaid : HostFault → Type 0
IsSaid why = ((error : Error) × (why ≡ reason_of error)) ⊎ (why ≡ NoMemory)

-- how the writing of a new file ends, which takes its name then
abbrev pub EndsFilling : Bool → Written → Type 0
EndsFilling replaces written.Done = Unit {0}
EndsFilling replaces written.IsThere = Unit {0}
EndsFilling replaces (written.Unmade why) = ⊥
EndsFilling replaces (written.Failed why) = IsTrue (is_reason why) ⊎ IsTrue (may_end_finish replaces why)

-- how the writing into a stream or a device ends
abbrev pub EndsPouring : Written → Type 0
EndsPouring written.Done = Unit {0}
EndsPouring written.IsThere = ⊥
EndsPouring (written.Unmade why) = IsSaid why
EndsPouring (written.Failed why) = IsTrue (is_reason why)

-- how the writing of a file ends: an existing file may not be replaced, it cannot be created, or it fails
abbrev pub EndsWriting : Bool → Written → Type 0
EndsWriting replaces written.Done = Unit {0}
EndsWriting replaces written.IsThere = Unit {0}
EndsWriting replaces (written.Unmade why) = Unit {0}
EndsWriting replaces (written.Failed why) = IsTrue (is_reason why) ⊎ IsTrue (may_end_finish replaces why)
