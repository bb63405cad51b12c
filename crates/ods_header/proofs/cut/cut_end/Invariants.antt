use Rattle.std.proofs.Common.{◌≡◌, ◌++◌, take, drop}
use Rattle.ods_header.specs.Header.{runs_of}
use Rattle.ods_header.specs.Cutting.{first_runs}
use Rattle.ods_header.proofs.cut.cut_end.Given as goal

abbrev pub invariant-loop-k : goal.invariant-loop-k
invariant-loop-k l = first_runs l.count (runs_of l.block) ≡ take l.k (runs_of l.block) ++ first_runs l.left (drop l.k (runs_of l.block))
