use Rattle.std.proofs.Common.{sym, ◌∙◌, arith}
use Rattle.std.proofs.lemmas.Option.{slice_get-get_or}
use Rattle.ods_mount.proofs.Sets.{noted_more}
use Rattle.ods_check.proofs.Noting.{first_more, first_all}
use Rattle.ods_check.proofs.Repeating.{distinct_noted, both_new}
use Rattle.ods_check.proofs.repeats.insert_new.Goals as goal

pub loop-i-preserved : goal.loop-i-preserved
loop-i-preserved c =
    let xs = c.args.numbers.now in
    let at = slice_get-get_or xs c.loop-i.i 0 c.loop-i-test.true in
    record {
      first = first_more c.args.set.now xs c.loop-i.i _ c.loop-i.set c.insert.new.self c.loop-i.invariant.first at c.insert.ensures.with;
      room = c.insert.ensures.room ∙ c.loop-i.invariant.room;
      noted = λ e.
          let p = both_new c.loop-i.is_new c.contains.result e in
          noted_more c.args.set.now xs c.loop-i.i _ c.loop-i.set c.insert.new.self (c.loop-i.invariant.noted p.0) at (sym c.contains.ensures ∙ p.1) c.insert.ensures.with;
    }

pub returns-clause-with : goal.returns-clause-with
returns-clause-with c = let end = c.loop-i-test.false in first_all c.args.set.now c.args.numbers.now c.loop-i.i c.loop-i.set (omega arith) c.loop-i.invariant.first

pub returns-clause-new : goal.returns-clause-new
returns-clause-new c e = let end = c.loop-i-test.false in distinct_noted c.args.set.now c.loop-i.set c.args.numbers.now c.loop-i.i (omega arith) (c.loop-i.invariant.noted e)
