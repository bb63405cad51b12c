use Rattle.std.proofs.Common.{◌≡◌, ℕ, ◌+◌, ◌<◌, ◌≤◌, false}
use Rattle.ods_mount.specs.Tables.{has}
use Rattle.ods_repair.proofs.unsharing.meets_run.Given as goal

abbrev pub invariant-loop-k : goal.invariant-loop-k
invariant-loop-k l = (b : ℕ) → l.run.lbn ≤ b → b < l.run.lbn + l.k → has l.set b ≡ false
