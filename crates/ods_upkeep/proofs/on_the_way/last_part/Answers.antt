use Rattle.std.proofs.Common.{rules}
use Rattle.ods_upkeep.proofs.WaysMade.{cut_shorter, reached, reaches_on}
use Rattle.ods_upkeep.proofs.on_the_way.last_part.Goals as goal

pub loop-behind-smaller : goal.loop-behind-smaller
loop-behind-smaller c = cut_shorter 47 c.loop-behind.rest.now _ c.in-Some.behind.now c.in-Some.ensures.cut

pub loop-behind-preserved : goal.loop-behind-preserved
loop-behind-preserved c = record {
  text = search rules;
  reaches = reaches_on c.args.path.now c.loop-behind.rest.now _ c.in-Some.behind.now c.loop-behind.invariant.reaches c.in-Some.ensures.cut;
}

pub returns : goal.returns
returns c = reached c.args.path.now c.loop-behind.rest.now c.loop-behind.invariant.reaches c.in_default.ensures.cut
