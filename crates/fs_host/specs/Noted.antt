-- The note of a reader or a writer that notes the reason of its failure.
use Rattle.std.specs.Prelude.{◌≡◌, Option, Some, Result, MatchResult}
use Rattle.std.specs.declared.io.Error.{Error}
use Rattle.fs_host.specs.declared.host_fault.HostFault.{HostFault}
use Rattle.fs_host.specs.declared.noting.Noting.{Noting}
use Rattle.fs_host.specs.Reasons.{reason_of}

-- the reason of the last call that failed, if one failed
abbrev pub reason_noted : {F : Type 0} → Noting F → Option HostFault
reason_noted noting = noting.why

-- a call with this result leaves the note, or notes its error
abbrev pub Notes : {A : Type 0} → Option HostFault → Result A Error → Option HostFault → Type 0
Notes old result new = MatchResult result (λ _. new ≡ old) (λ error. new ≡ Some (reason_of error))
