-- No twins stand before this place.
use Rattle.std.proofs.Common.{ℕ, ◌+◌, ◌<◌}
use Rattle.ods_shell.specs.Twins.{StandsTwice}
use Rattle.ods_shell.proofs.twins.have_twins.Given as goal

abbrev pub invariant-loop-at : goal.invariant-loop-at
invariant-loop-at l = (i : ℕ) → i + 1 < l.at → ¬ StandsTwice l.fn.found i
