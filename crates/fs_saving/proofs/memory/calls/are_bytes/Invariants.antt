-- The bytes begin with the blocks so far.
use Rattle.std.proofs.Common.{◌≡◌, ◌++◌, take}
use Rattle.std.specs.List.{concat}
use Rattle.fs_saving.proofs.memory.calls.are_bytes.Given as goal

abbrev pub invariant-loop-lbn : goal.invariant-loop-lbn
invariant-loop-lbn l = l.bytes ≡ concat (take l.lbn l.image) ++ l.rest
