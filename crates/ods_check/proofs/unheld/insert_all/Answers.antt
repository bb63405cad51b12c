use Rattle.std.proofs.Common.{◌∙◌, arith}
use Rattle.std.proofs.lemmas.Option.{slice_get-get_or}
use Rattle.ods_check.proofs.Noting.{first_more, first_all}
use Rattle.ods_check.proofs.unheld.insert_all.Goals as goal

pub loop-i-preserved : goal.loop-i-preserved
loop-i-preserved c = record {
  first = first_more c.args.set.now c.args.numbers.now c.loop-i.i _ c.loop-i.set c.insert.new.self c.loop-i.invariant.first (slice_get-get_or c.args.numbers.now c.loop-i.i 0 c.loop-i-test.true) c.insert.ensures.with;
  room = c.insert.ensures.room ∙ c.loop-i.invariant.room;
}

pub returns-clause-with : goal.returns-clause-with
returns-clause-with c = let end = c.loop-i-test.false in first_all c.args.set.now c.args.numbers.now c.loop-i.i c.loop-i.set (omega arith) c.loop-i.invariant.first
