use Rattle.std.proofs.Common.{[], refl, ◌∙◌, ap, sym, subst}
use Rattle.std.specs.Prelude.{is_some}
use Rattle.ods_header.specs.Attributes.{IsWithAttributes, KeepsOtherFields}
use Rattle.ods_request.specs.declared.answers.Answer.TheVariants.{Done}
use Rattle.ods_request.specs.declared.requests.Request.TheVariants.{SetUser}
use Rattle.ods_request.proofs.FaultTable.{fault_set_user}
use Rattle.ods_space.specs.Draft.{applied}
use Rattle.ods_space.proofs.Drafts.{applied_set}
use Rattle.ods_state.specs.Served.{IsStepOf}
use Rattle.ods_state.proofs.Served.{refused_by_fault, refused_for_memory}
use Rattle.ods_change.proofs.AttributesReplaced.{has_place}
use Rattle.ods_change.proofs.SettingUser.{set_user_is_step}
use Rattle.ods_change.proofs.block_changes.set_user.Goals as goal

pub returns-in-Err : goal.returns-in-Err
returns-in-Err c =
    refused_by_fault c.args.disk.now.image.now c.args.disk.now.layout.now c.args.who (SetUser c.args.file c.args.attributes) c.in-Err.refusal
    (λ C shown. fault_set_user C c.args.who c.args.file c.args.attributes ∙ c.in-Err.ensures.err C (λ f. []) shown)

pub unwrap-lbn-requires : goal.unwrap-lbn-requires
unwrap-lbn-requires c = ap is_some c.place.ensures ∙ has_place c.args.disk.now.image.now c.args.disk.now.layout.now c.args.file.number c.in-Ok.ensures.ok.0.file.0

pub returns-in-Ok-one_block : goal.returns-in-Ok-one_block
returns-in-Ok-one_block c =
    let I = c.args.disk.now.image.now in
    let L = c.args.disk.now.layout.now in
    let x = c.unwrap-lbn.result in
    let new = c.args.attributes in
    let b = c.with_attributes-header.result in
    let plain = c.in-Ok.ensures.ok.0 in
    let old = c.in-Ok.ensures.ok.1 in
    subst (λ J. IsStepOf I L c.args.who (SetUser c.args.file new) Done J L)
    (applied_set I x b ∙ ap (applied I) (sym c.in-Ok-one_block.ensures))
    (set_user_is_step c.requires plain x new b (sym c.place.ensures ∙ c.unwrap-lbn.ensures)
    (subst (λ h. IsWithAttributes h new b) old c.with_attributes-header.ensures.changed)
    (subst (λ h. KeepsOtherFields h new b) old c.with_attributes-header.ensures.fields)
    (λ C shown. fault_set_user C c.args.who c.args.file new ∙ (plain.passes C shown).left (λ f. [])))

pub returns-in-Err-one_block : goal.returns-in-Err-one_block
returns-in-Err-one_block c =
    refused_for_memory c.args.disk.now.image.now c.args.disk.now.layout.now c.args.who (SetUser c.args.file c.args.attributes) refl
    (λ C shown. fault_set_user C c.args.who c.args.file c.args.attributes ∙ (c.in-Ok.ensures.ok.0.passes C shown).left (λ f. []))
