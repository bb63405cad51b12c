use Rattle.std.proofs.Common.{◌∙◌, arith}
use Rattle.std.proofs.lemmas.Option.{slice_get-get_or}
use Rattle.ods_check.proofs.Noting.{first_more, first_all}
use Rattle.ods_check.proofs.Repeating.{there_more, there_all}
use Rattle.ods_check.proofs.repeats.insert_twice.Goals as goal

pub loop-i-preserved : goal.loop-i-preserved
loop-i-preserved c =
    let at = slice_get-get_or c.args.numbers.now c.loop-i.i 0 c.loop-i-test.true in
    record {
      first = first_more c.args.once.now c.args.numbers.now c.loop-i.i _ c.loop-i.once c.insert.new.self c.loop-i.invariant.first at c.insert.ensures.with;
      there = there_more c.args.twice.now c.args.once.now c.args.numbers.now c.loop-i.once c.loop-i.i _ c.contains-there.result c.loop-i.twice c.insert_if.new.set at c.loop-i.invariant.first c.contains-there.ensures c.loop-i.invariant.there c.insert_if.ensures.with;
      room = c.insert.ensures.room ∙ c.loop-i.invariant.room;
      same = c.insert_if.ensures.room ∙ c.loop-i.invariant.same;
    }

pub returns-clause-once : goal.returns-clause-once
returns-clause-once c = let end = c.loop-i-test.false in first_all c.args.once.now c.args.numbers.now c.loop-i.i c.loop-i.once (omega arith) c.loop-i.invariant.first

pub returns-clause-twice : goal.returns-clause-twice
returns-clause-twice c = let end = c.loop-i-test.false in there_all c.args.twice.now c.args.once.now c.args.numbers.now c.loop-i.i c.loop-i.twice (omega arith) c.loop-i.invariant.there
