use Rattle.std.proofs.Common.{◌∷◌, ap, ◌∙◌, subst}
use Rattle.ods_amend.specs.Label.{IsRelabelled}
use Rattle.ods_amend.proofs.LabelSound.{draft_labels}
use Rattle.ods_amend.proofs.label.draft_label.Goals as goal

pub returns-in-Ok : goal.returns-in-Ok
returns-in-Ok c =
    let x = c.home_place-lbn.result in
    let b = c.with_label-home.result in
    draft_labels c.requires x b c.home_place-lbn.ensures (subst (λ h. IsRelabelled h c.args.label.now b) c.block.ensures.value c.with_label-home.ensures)
    (c.in-Ok.ensures.ok ∙ ap (λ d. (x, b) ∷ d) c.new-draft.ensures)
