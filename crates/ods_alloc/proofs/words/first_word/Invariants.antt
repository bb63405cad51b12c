use Rattle.std.proofs.Common.{◌*◌}
use Rattle.ods_base.specs.Block.{has_bit}
use Rattle.ods_alloc.specs.Scan.{NonePasses}
use Rattle.ods_alloc.proofs.words.first_word.Given as goal

abbrev pub invariant-loop-j : goal.invariant-loop-j
invariant-loop-j l = NonePasses (has_bit l.fn.block) (64 * l.from) (64 * l.j)
