use Rattle.std.proofs.Common.{◌≡◌, sym, ap, ◌∙◌, subst, Some}
use Rattle.std.specs.Prelude.{IfSome}
use Rattle.ods_files.specs.Body.{bytes_in}
use Rattle.ods_files.specs.declared.form.Form.TheVariants.{Binary}
use Rattle.ods_records.specs.Attributes.{kind_in}
use Rattle.ods_records.specs.Records.{Spells}
use Rattle.ods_shell.proofs.Bodies.{none_spoiled}
use Rattle.ods_shell.proofs.spoiled.fault_in.Goals as goal

pub returns-in-Ok-clause-none : goal.returns-in-Ok-clause-none
returns-in-Ok-clause-none c =
    let kind : kind_in c.args.body.now.attributes ≡ Some c.in-Some.kind = sym (c.kind_of.ensures ∙ ap kind_in c.attributes.ensures) ∙ c.in-Some.is in
    let bytes : bytes_in Binary c.args.body.now ≡ Some c.in-Some-2.bytes.items = subst (λ o. IfSome o (λ b. bytes_in Binary c.args.body.now ≡ Some b.items)) c.in-Some-2.is c.in_ok-bytes.ensures.some in
    let read = c.in-Ok.ensures.ok in
    none_spoiled c.args.body.now c.in-Some.kind c.in-Some-2.bytes.items read.0 kind bytes (subst (λ b. Spells c.in-Some.kind b read.0) c.deref.ensures.value read.1)
