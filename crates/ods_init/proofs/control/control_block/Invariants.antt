use Rattle.ods_init.proofs.Counting.{AreCounted}
use Rattle.ods_init.proofs.control.control_block.Given as goal

abbrev pub invariant-loop-k : goal.invariant-loop-k
invariant-loop-k l = AreCounted l.blocks l.places l.block l.k
