use Rattle.std.proofs.Common.{◌∙◌, sym}
use Rattle.ods_remains.proofs.Summing.{names_none}
use Rattle.ods_remains.proofs.left.named_by.Goals as goal

pub returns-then-left-eq0 : goal.returns-then-left-eq0
returns-then-left-eq0 c =
    let D = c.args.disk.now in
    c.new-named.ensures.items ∙ sym (names_none D.image.now D.layout.now c.args.number c.left_at-left.result c.left_at-left.ensures c.if-left-eq0.true)
