use Rattle.ods_alloc.proofs.counts.FreeCounts.of.Goals as goal

pub invariant_of-result : goal.invariant_of-result
invariant_of-result c = c.in_ok-blocks.ensures.few
