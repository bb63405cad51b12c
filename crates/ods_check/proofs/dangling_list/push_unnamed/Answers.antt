use Rattle.std.proofs.Common.{◌≡◌, ◌∙◌, Some, slice_get, sym, ap}
use Rattle.std.proofs.lemmas.Option.{slice_get-get_or}
use Rattle.ods_check.proofs.DanglingLines.{up_to_none, up_to_more, up_to_all}
use Rattle.ods_check.proofs.dangling_list.push_unnamed.Goals as goal

pub loop-i-init : goal.loop-i-init
loop-i-init c = up_to_none c.args.disk.now.image.now c.args.disk.now.layout.now c.args.directory c.args.lines.now c.args.found.now.items

pub loop-i-preserved : goal.loop-i-preserved
loop-i-preserved c =
    let lines = c.args.lines.now in
    let i = c.loop-i.i in
    let x = c.index-lines-i.result in
    let at : slice_get lines i ≡ Some x = slice_get-get_or lines i x c.loop-i-test.true ∙ ap Some (sym c.index-lines-i.is) in
    up_to_more c.args.disk.now.image.now c.args.disk.now.layout.now c.args.directory lines c.args.found.now.items c.loop-i.found.items c.push_if_unnamed.new.found.items i x at c.loop-i.invariant c.in_ok-push_if_unnamed.ensures

pub returns : goal.returns
returns c =
    up_to_all c.args.disk.now.image.now c.args.disk.now.layout.now c.args.directory c.args.lines.now c.args.found.now.items c.loop-i.found.items c.loop-i.i c.loop-i-test.false c.loop-i.invariant
