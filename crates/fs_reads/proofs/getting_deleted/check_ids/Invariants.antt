-- The paths so far say IDs.
use Rattle.std.proofs.Common.{take}
use Rattle.std.specs.List.{All}
use Rattle.fs_reads.specs.Undeleted.{SaysId}
use Rattle.fs_reads.proofs.getting_deleted.check_ids.Given as goal

abbrev pub invariant-loop-path : goal.invariant-loop-path
invariant-loop-path l = All (λ path. SaysId path.now) (take l.path-index l.paths)
