use Rattle.ods_order.proofs.Blocks.{IsGathered}
use Rattle.ods_order.proofs.reading.block_of.Given as goal

-- the first k sectors are in the block
abbrev pub invariant-loop-k : goal.invariant-loop-k
invariant-loop-k l = IsGathered l.order l.container l.lbn l.k l.block
