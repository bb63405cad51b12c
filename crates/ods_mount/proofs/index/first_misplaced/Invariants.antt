use Rattle.std.proofs.Common.{ℕ, ◌<◌}
use Rattle.ods_mount.specs.Checks.{IsElsewhere}
use Rattle.ods_mount.proofs.index.first_misplaced.Given as goal

abbrev pub invariant-loop-i : goal.invariant-loop-i
invariant-loop-i l = (k : ℕ) → k < l.i → ¬ IsElsewhere l.layout k
