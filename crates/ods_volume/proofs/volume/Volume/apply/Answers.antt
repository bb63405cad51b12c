use Rattle.std.proofs.Common.{ap, subst, ◌∙◌}
use Rattle.ods_request.specs.declared.answers.Entry.{Entry}
use Rattle.ods_request.specs.Lines.{HasLines}
use Rattle.ods_volume.specs.Kept.{state_of}
use Rattle.ods_volume.proofs.Carried.{newest_is}
use Rattle.ods_volume.proofs.volume.Volume.apply.Goals as goal

pub answer-requires-clause-unlined : goal.answer-requires-clause-unlined
answer-requires-clause-unlined c = λ e lines.
    let newest = newest_is (state_of c.self.inside) c.args.self.now c.args.prepared c.len.result e (c.self.view_is ∙ c.in_default.ensures.changed) c.len.ensures in
    c.in_default.ensures.lines (subst (λ (x : Entry). HasLines x.answer) newest lines)

pub returns-clause-answered : goal.returns-clause-answered
returns-clause-answered c =
    let e = c.args.prepared.entry in
    let newest = newest_is (state_of c.self.inside) c.args.self.now c.args.prepared c.len.result e (c.self.view_is ∙ c.in_default.ensures.changed) c.len.ensures in
    c.answer.ensures e ∙ ap (λ (x : Entry). x.answer) newest
