use Rattle.std.proofs.Common.{◌∙◌, ap, subst}
use Rattle.std.proofs.lemmas.List.{take_all}
use Rattle.ods_base.specs.Image.{IsImage}
use Rattle.ods_space.specs.Draft.{applied}
use Rattle.ods_space.specs.Changes.{changes_of}
use Rattle.ods_space.proofs.DraftImages.{image_more, image_none}
use Rattle.ods_space.proofs.draft.Draft.makes_image.Goals as goal

pub loop-change-init : goal.loop-change-init
loop-change-init c = image_none c.args.image.now c.len.ensures.image

pub loop-change-preserved : goal.loop-change-preserved
loop-change-preserved c =
    image_more c.args.image.now c.deref-change-items.result.now c.loop-change.change-index c.change-item.result c.loop-change-test.true c.change-item.is c.is_block.ensures c.loop-change.invariant

pub returns : goal.returns
returns c =
    let I = c.args.image.now in
    subst (λ d. IsImage (applied I d)) (ap changes_of (take_all c.loop-change.change-index c.deref-change-items.result.now c.loop-change-test.false ∙ c.deref-change-items.ensures.value) ∙ c.self.view_is) c.loop-change.invariant
