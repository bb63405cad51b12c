use Rattle.ods_init.proofs.BitRuns.{Between}
use Rattle.ods_init.proofs.bits.bits_between.Given as goal

abbrev pub invariant-loop-i : goal.invariant-loop-i
invariant-loop-i l = Between l.block l.from l.i
