use Rattle.std.proofs.Common.{◌≡◌, ℕ, ◌+◌, ◌<◌, ◌≤◌, Some, slice_get}
use Rattle.ods_header.specs.declared.header.Run.{Run}
use Rattle.ods_header.specs.Header.{runs_of}
use Rattle.ods_container.proofs.size.end_below.Given as goal

-- the blocks of each pointer before this one end at the size or before
abbrev pub invariant-loop-k : goal.invariant-loop-k
invariant-loop-k l = (j : ℕ) (r : Run) → j < l.k → slice_get (runs_of l.block) j ≡ Some r → r.lbn + r.count ≤ l.size
