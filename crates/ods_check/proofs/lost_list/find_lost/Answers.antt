use Rattle.std.proofs.Common.{arith, subst, sym}
use Rattle.ods_check.proofs.DanglingLines.{AreLostBelow, lost_none, lost_more, lost_all}
use Rattle.ods_check.proofs.lost_list.find_lost.Goals as goal

pub loop-number-init : goal.loop-number-init
loop-number-init c = subst (λ xs. AreLostBelow c.args.disk.now.image.now c.args.disk.now.layout.now 0 xs) (sym c.new-found.ensures.items) (lost_none c.args.disk.now.image.now c.args.disk.now.layout.now)

pub loop-number-preserved : goal.loop-number-preserved
loop-number-preserved c =
    lost_more c.args.disk.now.image.now c.args.disk.now.layout.now c.loop-number.number c.loop-number.found.items c.push_if_lost.new.found.items c.loop-number.invariant c.in_ok-push_if_lost.ensures

pub returns : goal.returns
returns c =
    let end = c.loop-number-test.false in
    lost_all c.args.disk.now.image.now c.args.disk.now.layout.now c.loop-number.number c.loop-number.found.items (λ n h. let low = c.file_end-number-end.ensures.files n h.file in omega (arith, end, low)) c.loop-number.invariant
