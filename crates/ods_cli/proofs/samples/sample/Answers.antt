use Rattle.std.proofs.Common.{◌*◌, ◌++◌, ℕ, List, length, ap, ◌∙◌}
use Rattle.ods_base.specs.Image.{image_bytes}
use Rattle.ods_base.proofs.Images.{length-concat}
use Rattle.ods_init.specs.declared.blueprint.Blueprint.{Blueprint}
use Rattle.ods_cli.proofs.samples.sample.Goals as goal

pub returns-in-Ok-clause-size : goal.returns-in-Ok-clause-size
returns-in-Ok-clause-size c =
    let volume = c.in_ok-image.ensures.new in
    c.write_to.new.writer.ok.0
    ∙ ap length c.in-Ok.ensures.ok
    ∙ ap (λ (xs : List ℕ). length (xs ++ image_bytes c.in_ok-image.image)) c.in_ok-bytes.ensures.items
    ∙ length-concat _ volume.image.blocks
    ∙ ap (λ (n : ℕ). 512 * n) (volume.size ∙ ap (λ (W : Blueprint). W.blocks) c.sample_blueprint.ensures)
