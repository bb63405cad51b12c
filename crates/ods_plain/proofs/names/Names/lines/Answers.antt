use Rattle.std.proofs.Common.{◌≡◌, sym, ap, subst, ◌∙◌, IfOk}
use Rattle.ods_base.specs.Names.{lines_of}
use Rattle.ods_plain.proofs.LineLists.{lines-names_in}
use Rattle.ods_plain.proofs.names.Names.lines.Goals as goal

pub returns : goal.returns
returns c =
    let same : c.as_slice.result.now ≡ lines_of c.args.self.now = c.as_slice.ensures.value ∙ sym (lines-names_in c.self.inside.lines.items c.self.invariant) ∙ ap lines_of c.self.view_is in
    subst (λ ls. IfOk c.from_slice.result (λ v. v.items ≡ ls)) same c.from_slice.ensures.items
