use Rattle.std.proofs.Common.{arith}
use Rattle.ods_check.proofs.Sweeping.{each_next, each_all}
use Rattle.ods_check.proofs.sweep.push_each.Goals as goal

pub loop-number-preserved : goal.loop-number-preserved
loop-number-preserved g c =
    let I = c.args.disk.now.image.now in
    let L = c.args.disk.now.layout.now in
    each_next (g.S.Sought.is c.args.sought.now I L) (g.S.Sought.line_of I L) c.args.told.now c.loop-number.told c.push_if.new.list c.loop-number.number c.line.result c.in_ok-holds.holds c.loop-number.invariant
    c.in_ok-holds.ensures c.line.ensures c.in_ok-push_if.ensures

pub returns-clause-each : goal.returns-clause-each
returns-clause-each g c =
    let I = c.args.disk.now.image.now in
    let L = c.args.disk.now.layout.now in
    let end = c.loop-number-test.false in
    each_all (g.S.Sought.is c.args.sought.now I L) (g.S.Sought.line_of I L) c.args.told.now c.loop-number.told c.loop-number.number (λ n h. let low = c.end-number-end.ensures.above n h in omega arith) c.loop-number.invariant

pub returns-clause-few : goal.returns-clause-few
returns-clause-few g c n h =
    let low = c.end-number-end.ensures.above n h in
    let most = c.end-number-end.ensures.most in
    omega arith
