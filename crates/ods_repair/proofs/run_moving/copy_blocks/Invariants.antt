use Rattle.ods_repair.specs.Moved.{IsCopied}
use Rattle.ods_repair.proofs.run_moving.copy_blocks.Given as goal

abbrev pub invariant-loop-k : goal.invariant-loop-k
invariant-loop-k l = IsCopied l.initial.image l.from l.to l.k l.image
