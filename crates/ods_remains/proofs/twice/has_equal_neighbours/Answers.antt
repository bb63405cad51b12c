use Rattle.std.proofs.Common.{arith}
use Rattle.ods_remains.proofs.Repeats.{same_neighbours, rises_on, distinct_by_rising}
use Rattle.ods_remains.proofs.twice.has_equal_neighbours.Goals as goal

pub loop-i-preserved : goal.loop-i-preserved
loop-i-preserved c =
    let so = c.loop-i.invariant in
    (omega arith, rises_on c.args.numbers.now c.loop-i.i c.requires so.0 c.loop-i-test.true so.1 c.if-one-other.false)

pub returns-then-one-other : goal.returns-then-one-other
returns-then-one-other c = same_neighbours c.args.numbers.now c.loop-i.i c.requires c.loop-i.invariant.0 c.loop-i-test.true c.if-one-other.true

pub returns : goal.returns
returns c = distinct_by_rising c.args.numbers.now c.loop-i.i c.requires c.loop-i-test.false c.loop-i.invariant.1
