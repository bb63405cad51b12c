use Rattle.std.proofs.Common.{length, ℕ}
use Rattle.ods_paths.proofs.RowLoops.{IsOpening}
use Rattle.ods_paths.proofs.matching.open_runs.Given as goal

abbrev pub invariant-loop-place : goal.invariant-loop-place
invariant-loop-place l = IsOpening l.fn.row l.row l.place l.seen

abbrev pub decreases-loop-place : goal.decreases-loop-place
decreases-loop-place l = l.place
