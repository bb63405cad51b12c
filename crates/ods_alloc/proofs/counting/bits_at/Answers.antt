use Rattle.std.proofs.Common.{arith, ap, ◌∙◌}
use Rattle.ods_alloc.specs.Counts.{low_bits_set}
use Rattle.ods_alloc.proofs.Counted.{none_past}
use Rattle.ods_alloc.proofs.counting.bits_at.Goals as goal

pub returns-then-len-lbn : goal.returns-then-len-lbn
returns-then-len-lbn c = none_past c.args.image.now c.args.lbn c.args.few (omega (arith, c.len.ensures.value, c.if-len-lbn.true))

pub returns-else-len-lbn : goal.returns-else-len-lbn
returns-else-len-lbn c = c.bits_set.ensures ∙ ap (low_bits_set c.args.few) c.block.ensures.value
