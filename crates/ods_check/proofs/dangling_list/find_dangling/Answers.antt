use Rattle.std.proofs.Common.{arith, subst, sym}
use Rattle.ods_check.proofs.DanglingLines.{AreBelow, below_none, below_more, below_all}
use Rattle.ods_check.proofs.dangling_list.find_dangling.Goals as goal

pub loop-number-init : goal.loop-number-init
loop-number-init c = subst (λ xs. AreBelow c.args.disk.now.image.now c.args.disk.now.layout.now 0 xs) (sym c.new-found.ensures.items) (below_none c.args.disk.now.image.now c.args.disk.now.layout.now)

pub loop-number-preserved : goal.loop-number-preserved
loop-number-preserved c =
    below_more c.args.disk.now.image.now c.args.disk.now.layout.now c.loop-number.number c.loop-number.found.items c.push_dangling.new.found.items c.loop-number.invariant c.in_ok-push_dangling.ensures

pub returns : goal.returns
returns c =
    let end = c.loop-number-test.false in
    below_all c.args.disk.now.image.now c.args.disk.now.layout.now c.loop-number.number c.loop-number.found.items (λ d line h. let low = c.file_end-number-end.ensures.files d h.file.0 in omega (arith, end, low)) c.loop-number.invariant
