use Rattle.std.specs.Prelude.{is_some, not}
use Rattle.f11fs.proofs.Unpacking.{along_all, along_next, along_none}
use Rattle.f11fs.proofs.untarring.put_all.Goals as goal

pub loop-one-init : goal.loop-one-init
loop-one-init c = along_none (not (is_some c.args.times.now.zone)) c.args.directory c.args.times.now.run c.args.wanted.now c.args.filing.now c.args.due.now.items

pub loop-one-preserved : goal.loop-one-preserved
loop-one-preserved c =
    along_next (not (is_some c.args.times.now.zone)) c.args.directory c.args.times.now.run c.args.wanted.now c.loop-one.one-index _ c.args.filing.now c.loop-one.filing _ c.args.due.now.items c.loop-one.due.items _
    c.loop-one-test.true c.loop-one.invariant c.in_ok-put_one.ensures.done

pub returns-clause-done : goal.returns-clause-done
returns-clause-done c =
    along_all (not (is_some c.args.times.now.zone)) c.args.directory c.args.times.now.run c.args.wanted.now c.loop-one.one-index c.args.filing.now c.loop-one.filing c.args.due.now.items c.loop-one.due.items
    c.loop-one-test.false c.loop-one.invariant
