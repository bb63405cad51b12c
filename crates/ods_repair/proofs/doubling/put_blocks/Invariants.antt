use Rattle.ods_repair.specs.Doubled.{IsPut}
use Rattle.ods_repair.proofs.doubling.put_blocks.Given as goal

abbrev pub invariant-loop-i : goal.invariant-loop-i
invariant-loop-i l = IsPut l.initial.image l.lbns l.blocks l.i l.image
