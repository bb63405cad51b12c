use Rattle.std.proofs.Common.{◌≡◌, ◌++◌}
use Rattle.ods_space.proofs.Surveys.{first_blocks}
use Rattle.ods_space.proofs.collect.push_header.Given as goal

abbrev pub invariant-loop-k : goal.invariant-loop-k
invariant-loop-k l = l.named.items ≡ l.initial.named.items ++ first_blocks l.block l.k
