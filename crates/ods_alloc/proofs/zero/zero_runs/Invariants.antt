use Rattle.std.proofs.Common.{ℕ, List, take}
use Rattle.std.specs.List.{flat_map}
use Rattle.ods_header.specs.Header.{run_blocks}
use Rattle.ods_space.specs.Draft.{applied}
use Rattle.ods_alloc.specs.Zeroed.{IsZeroed}
use Rattle.ods_alloc.proofs.zero.zero_runs.Given as goal

abbrev pub invariant-loop-run : goal.invariant-loop-run
invariant-loop-run l = (I : List (List ℕ)) → IsZeroed (applied I l.initial.draft) (flat_map run_blocks (take l.run-index l.runs)) (applied I l.draft)
