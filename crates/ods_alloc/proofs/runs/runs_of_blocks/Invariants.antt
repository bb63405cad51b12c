use Rattle.std.proofs.Common.{◌≡◌, ◌++◌, ◌≤◌, drop}
use Rattle.ods_alloc.specs.Extend.{cut, cut_from}
use Rattle.ods_alloc.proofs.runs.runs_of_blocks.Given as goal

abbrev pub invariant-loop-block : goal.invariant-loop-block
invariant-loop-block l = record { built : l.runs.items ++ cut_from l.open (drop l.block-index l.rest) ≡ cut l.blocks; some : 1 ≤ l.open.count; few : l.open.count ≤ 256 }
