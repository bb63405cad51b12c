use Rattle.std.proofs.Common.{◌∙◌, ◌*◌, inl, inr, length, take, refl, sym}
use Rattle.std.specs.Prelude.{None, Some}
use Rattle.ods_base.specs.Image.{image_bytes}
use Rattle.ods_files.specs.declared.form.Form.TheVariants.{Binary}
use Rattle.ods_shell.proofs.ComparedForms.{bytes_of}
use Rattle.ods_shell.proofs.comparing.form_of.Goals as goal

pub returns-in-Some : goal.returns-in-Some
returns-in-Some c =
    let has = bytes_of Binary c.args.body.now (Some c.in-Some.field-0) (sym c.size.ensures ∙ c.in-Some.is) in
    (take c.in-Some.field-0 (image_bytes c.args.body.now.blocks), has, inl has)

pub returns-in-None : goal.returns-in-None
returns-in-None c =
    let has_none = bytes_of Binary c.args.body.now None (sym c.size.ensures ∙ c.in-None.is) in
    (take (512 * length c.args.body.now.blocks) (image_bytes c.args.body.now.blocks), refl, inr (has_none, refl))
