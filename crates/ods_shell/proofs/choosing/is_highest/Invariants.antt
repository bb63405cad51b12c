use Rattle.std.proofs.Common.{◌≡◌, ℕ, ◌<◌, ◌≤◌, Some}
use Rattle.std.specs.Prelude.{slice_get}
use Rattle.ods_base.specs.declared.listed.Listed.{Listed}
use Rattle.ods_shell.proofs.choosing.is_highest.Given as goal

abbrev pub invariant-places : goal.invariant-places
invariant-places l = (l.at ≤ l.place) × ((k : ℕ) (o : Listed) → l.at ≤ k → k < l.place → slice_get l.lines k ≡ Some o → o.version ≤ l.line.version)

abbrev pub decreases-places : goal.decreases-places
decreases-places l = l.at
