use Rattle.std.proofs.Common.{◌≡◌, ℕ, ◌-◌, ◌<◌, ◌≤◌, length, Some}
use Rattle.std.specs.Prelude.{slice_get}
use Rattle.ods_base.specs.declared.listed.Listed.{Listed}
use Rattle.ods_shell.proofs.choosing.is_lowest.Given as goal

abbrev pub invariant-places : goal.invariant-places
invariant-places l = (l.place < l.at) × ((k : ℕ) (o : Listed) → l.place < k → k < l.at → slice_get l.lines k ≡ Some o → l.line.version ≤ o.version)

abbrev pub decreases-places : goal.decreases-places
decreases-places l = length l.lines - l.at
