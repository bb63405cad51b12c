-- At none of the places so far can the name be cut.
use Rattle.std.proofs.Common.{◌≤◌, ◌<◌, ℕ}
use Rattle.std.specs.Str.{IsCharBoundary}
use Rattle.fs_host.proofs.names.front_of.Given as goal

abbrev pub invariant-loop-end : goal.invariant-loop-end
invariant-loop-end l = (i : ℕ) → l.end ≤ i → i < l.most → ¬ IsCharBoundary l.name i
