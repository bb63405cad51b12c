-- The number of the bytes so far.
use Rattle.std.proofs.Common.{◌≡◌, take}
use Rattle.fs_host.specs.Names.{number_in}
use Rattle.fs_host.proofs.names.number_of.Given as goal

abbrev pub invariant-loop-byte : goal.invariant-loop-byte
invariant-loop-byte l = l.number ≡ number_in (take l.byte-index l.byte-items)
