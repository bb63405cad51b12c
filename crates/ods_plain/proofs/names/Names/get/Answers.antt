use Rattle.std.proofs.Common.{sym, ap, ◌∙◌}
use Rattle.std.specs.FinMap as names
use Rattle.std.specs.FinMap.{find}
use Rattle.ods_base.specs.Name.{key_of}
use Rattle.ods_plain.specs.Lines.{entries_of}
use Rattle.ods_plain.proofs.LineLists.{key_cmp, get-names_in}
use Rattle.ods_plain.proofs.names.Names.get.Goals as goal

pub returns : goal.returns
returns c =
    let wanted = key_of c.args.name.now c.args.version in
    c.find.ensures ∙ (λ i. find key_cmp (c.key.ensures.value i) (entries_of (c.as_slice.ensures.value i)))
    ∙ sym (get-names_in c.self.inside.lines.items wanted c.self.invariant) ∙ ap (λ m. names.get m wanted) c.self.view_is
