-- The changes that are left say of the name what all say.
use Rattle.std.proofs.Common.{◌≡◌, length}
use Rattle.fs_saving.specs.Memory.{held}
use Rattle.fs_saving.proofs.memory.find.Given as goal

abbrev pub invariant-loop-change : goal.invariant-loop-change
invariant-loop-change l = held l.rest l.name ≡ held l.changes l.name

abbrev pub decreases-loop-change : goal.decreases-loop-change
decreases-loop-change l = length l.rest
