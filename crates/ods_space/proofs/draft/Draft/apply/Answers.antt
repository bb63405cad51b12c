use Rattle.std.proofs.Common.{◌∙◌, ap}
use Rattle.std.proofs.lemmas.List.{take_all}
use Rattle.ods_space.specs.Draft.{applied}
use Rattle.ods_space.specs.Changes.{changes_of}
use Rattle.ods_space.proofs.Drafts.{applied_none, applied_more}
use Rattle.ods_space.proofs.draft.Draft.apply.Goals as goal

pub loop-change-init : goal.loop-change-init
loop-change-init c = applied_none c.args.image.now

pub loop-change-preserved : goal.loop-change-preserved
loop-change-preserved c =
    c.make.ensures
    ∙ applied_more c.args.image.now c.loop-change.image c.deref-change-items.result.now c.loop-change.change-index c.change-item.result c.loop-change-test.true c.change-item.is c.loop-change.invariant

pub returns : goal.returns
returns c =
    let I = c.args.image.now in
    c.loop-change.invariant
    ∙ ap (λ cs. applied I (changes_of cs)) (take_all c.loop-change.change-index c.deref-change-items.result.now c.loop-change-test.false ∙ c.deref-change-items.ensures.value)
    ∙ ap (applied I) c.self.view_is
