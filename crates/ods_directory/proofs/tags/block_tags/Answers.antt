use Rattle.std.proofs.Common.{arith}
use Rattle.std.proofs.lemmas.Grind.{common_steps}
use Rattle.ods_directory.proofs.Tagged.{tag_set, tags_by_place}
use Rattle.ods_directory.proofs.tags.block_tags.Goals as goal

pub loop-k-preserved : goal.loop-k-preserved
loop-k-preserved c = record {
  long = grind (arith, common_steps);
  done = tag_set c.args.block.now c.loop-k.tags c.loop-k.k c.tag_of.result (omega (arith, c.loop-k.invariant.long)) c.loop-k.invariant.done c.tag_of.ensures;
}

pub returns : goal.returns
returns c = tags_by_place c.args.block.now c.loop-k.tags c.loop-k.invariant.long (λ k below. c.loop-k.invariant.done k (omega arith))
