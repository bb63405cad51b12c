use Rattle.ods_container.proofs.Lacking.{none_below}
use Rattle.ods_container.proofs.part.has_all_blocks.Goals as goal

pub returns : goal.returns
returns c = none_below c.args.image.now c.args.count (c.in-Err.ensures.none c.if-is_memory.ensures)
