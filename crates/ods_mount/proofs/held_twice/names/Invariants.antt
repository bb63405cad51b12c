use Rattle.std.specs.List.{Contains}
use Rattle.ods_space.proofs.Surveys.{first_blocks}
use Rattle.ods_mount.proofs.held_twice.names.Given as goal

abbrev pub invariant-loop-k : goal.invariant-loop-k
invariant-loop-k l = ¬ Contains (first_blocks l.header l.k) l.lbn
