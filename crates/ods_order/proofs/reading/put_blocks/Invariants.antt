use Rattle.ods_order.proofs.Blocks.{ArePut}
use Rattle.ods_order.proofs.reading.put_blocks.Given as goal

-- the first blocks are those of the volume
abbrev pub invariant-loop-lbn : goal.invariant-loop-lbn
invariant-loop-lbn l = ArePut l.order l.container l.image l.lbn
