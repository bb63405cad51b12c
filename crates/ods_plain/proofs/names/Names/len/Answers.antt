use Rattle.std.proofs.Common.{sym, ap, ◌∙◌, length}
use Rattle.std.specs.FinMap as names
use Rattle.ods_plain.proofs.LineLists.{len-names_in}
use Rattle.ods_plain.proofs.names.Names.len.Goals as goal

pub returns : goal.returns
returns c = ap length c.as_slice.ensures.value ∙ sym (len-names_in c.self.inside.lines.items c.self.invariant) ∙ ap names.len c.self.view_is
