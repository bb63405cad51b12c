use Rattle.std.proofs.Common.{sym, ap, ◌∙◌}
use Rattle.ods_base.specs.Names.{picked_version, highest_of, lowest_of, versions_of}
use Rattle.ods_plain.specs.Lines.{versions_in}
use Rattle.ods_plain.proofs.LineLists.{versions-names_in}
use Rattle.ods_plain.proofs.names.Names.pick.Goals as goal

pub returns-in-Highest : goal.returns-in-Highest
returns-in-Highest c =
    c.ends.ensures.highest ∙ ap (λ ls. highest_of (versions_in ls c.args.name.now)) c.as_slice.ensures.value
    ∙ ap highest_of (sym (versions-names_in c.self.inside.lines.items c.args.name.now c.self.invariant) ∙ ap (λ m. versions_of m c.args.name.now) c.self.view_is)
    ∙ sym (ap (picked_version c.args.self.now c.args.name.now) c.in-Highest.is)

pub returns-in-Lowest : goal.returns-in-Lowest
returns-in-Lowest c =
    c.ends-in-Lowest.ensures.lowest ∙ ap (λ ls. lowest_of (versions_in ls c.args.name.now)) c.as_slice-in-Lowest.ensures.value
    ∙ ap lowest_of (sym (versions-names_in c.self.inside.lines.items c.args.name.now c.self.invariant) ∙ ap (λ m. versions_of m c.args.name.now) c.self.view_is)
    ∙ sym (ap (picked_version c.args.self.now c.args.name.now) c.in-Lowest.is)
