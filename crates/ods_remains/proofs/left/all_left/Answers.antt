use Rattle.std.proofs.Common.{arith}
use Rattle.ods_remains.proofs.Summing.{left_on}
use Rattle.ods_remains.proofs.left.all_left.Goals as goal

pub loop-number-preserved : goal.loop-number-preserved
loop-number-preserved c =
    let D = c.args.disk.now in
    left_on D.image.now D.layout.now c.loop-number.all.items c.loop-number.number c.in_ok-left.left c.push.new.self.items c.loop-number.invariant.0 c.loop-number.invariant.1 c.in_ok-push.ensures.items c.in_ok-left.ensures

pub returns : goal.returns
returns c = λ n is.
    let high = is.high in
    let end = c.last_number.ensures in
    let past = c.loop-number-test.false in
    c.loop-number.invariant.1 n (omega (arith, high, end, past)) is
