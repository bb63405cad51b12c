use Rattle.std.proofs.Common.{◌≢◌, ℕ, ◌<◌, None, Some}
use Rattle.std.specs.Prelude.{slice_get}
use Rattle.ods_volume.proofs.ends.KnownEnds.place.Given as goal

-- no place that was passed is empty
abbrev pub invariant-loop-place : goal.invariant-loop-place
invariant-loop-place l = (i : ℕ) → i < l.place → slice_get l.noted-items i ≢ Some None
