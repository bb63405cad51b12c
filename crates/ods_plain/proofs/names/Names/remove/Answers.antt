use Rattle.std.proofs.Common.{◌≡◌, sym, ap, subst, ◌∙◌}
use Rattle.std.specs.FinMap as names
use Rattle.ods_base.specs.Name.{key_of}
use Rattle.ods_plain.specs.Lines.{names_in, AreLines}
use Rattle.ods_plain.proofs.LineLists.{without, removed}
use Rattle.ods_plain.proofs.names.Names.remove.Goals as goal

pub invariant_of-self : goal.invariant_of-self
invariant_of-self c =
    let is : c.take_out.new.lines.items ≡ without (key_of c.args.name.now c.args.version) c.self.inside.lines.items = c.take_out.ensures ∙ ap (λ k. without k c.self.inside.lines.items) c.key.ensures.value in
    subst AreLines (sym is) (removed c.self.inside.lines.items (key_of c.args.name.now c.args.version) c.self.invariant).lines

pub returns : goal.returns
returns c =
    let is : c.take_out.new.lines.items ≡ without (key_of c.args.name.now c.args.version) c.self.inside.lines.items = c.take_out.ensures ∙ ap (λ k. without k c.self.inside.lines.items) c.key.ensures.value in
    ap names_in is ∙ (removed c.self.inside.lines.items (key_of c.args.name.now c.args.version) c.self.invariant).names ∙ ap (λ m. names.remove m (key_of c.args.name.now c.args.version)) c.self.view_is
