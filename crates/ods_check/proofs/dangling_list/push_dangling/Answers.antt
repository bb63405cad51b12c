use Rattle.std.proofs.Common.{subst}
use Rattle.ods_check.specs.Repairs.{AddsUnnamed}
use Rattle.ods_check.proofs.DanglingLines.{of_names}
use Rattle.ods_check.proofs.dangling_list.push_dangling.Goals as goal

pub returns : goal.returns
returns c =
    let I = c.args.disk.now.image.now in
    let L = c.args.disk.now.layout.now in
    of_names I L c.args.directory c.id_of.result c.in_ok-lines.lines.items c.args.found.now.items c.push_unnamed.new.found.items c.id_of.ensures c.in_ok-lines.ensures
    (subst (λ ls. AddsUnnamed I L c.id_of.result ls c.args.found.now.items c.push_unnamed.new.found.items) c.deref.ensures.value c.in_ok-push_unnamed.ensures)
