use Rattle.ods_repair.proofs.InTurn.{partly_all, partly_more, partly_none, partly_stops}
use Rattle.ods_repair.proofs.asking.ask_all.Goals as goal

pub loop-i-init : goal.loop-i-init
loop-i-init g c = partly_none (g.P.Plan.request_of c.args.plan.now) c.args.filing.now c.args.all.now

pub returns-in-Err-clause-refused : goal.returns-in-Err-clause-refused
returns-in-Err-clause-refused g c =
    let why = c.in-Err.ensures.refused in (
      c.index-all-i.result,
      why.0,
      why.1,
      partly_stops (g.P.Plan.request_of c.args.plan.now) c.args.filing.now c.args.all.now c.loop-i.i c.index-all-i.result c.loop-i.filing c.ask.new.filing why.0 c.loop-i-test.true c.index-all-i.is c.loop-i.invariant why.2 why.3,
    )

pub loop-i-preserved : goal.loop-i-preserved
loop-i-preserved g c =
    partly_more (g.P.Plan.request_of c.args.plan.now) c.args.filing.now c.args.all.now c.loop-i.i c.index-all-i.result c.loop-i.filing c.ask.new.filing c.loop-i-test.true c.index-all-i.is c.loop-i.invariant c.in_default.ensures.done

pub returns-clause-done : goal.returns-clause-done
returns-clause-done g c = partly_all (g.P.Plan.request_of c.args.plan.now) c.args.filing.now c.args.all.now c.loop-i.i c.loop-i.filing c.loop-i-test.false c.loop-i.invariant
