use Rattle.std.proofs.Common.{[], refl, ◌∙◌, ap, sym, subst}
use Rattle.ods_request.specs.declared.answers.Answer.TheVariants.{Done}
use Rattle.ods_request.specs.declared.requests.Request.TheVariants.{Write as WriteRequest}
use Rattle.ods_request.proofs.FaultTable.{fault_write}
use Rattle.ods_space.specs.Draft.{applied}
use Rattle.ods_space.proofs.Drafts.{applied_set}
use Rattle.ods_state.specs.Ends.{IsKnownIn}
use Rattle.ods_state.specs.Served.{IsStepOf}
use Rattle.ods_state.proofs.GrownMoves.{no_places}
use Rattle.ods_state.proofs.Served.{refused_by_fault, refused_for_memory}
use Rattle.ods_change.proofs.Writing.{write_is_step, write_keeps_ends}
use Rattle.ods_change.proofs.block_changes.write.Goals as goal

pub returns-in-Err-clause-step : goal.returns-in-Err-clause-step
returns-in-Err-clause-step c =
    refused_by_fault c.args.disk.now.image.now c.args.disk.now.layout.now c.args.who (WriteRequest c.args.file c.args.vbn c.args.block.now) c.in-Err.refusal
    (λ C shown. fault_write C c.args.who c.args.file c.args.vbn c.args.block.now ∙ c.in-Err.ensures.err C shown)

pub returns-in-Ok-one_block-clause-step : goal.returns-in-Ok-one_block-clause-step
returns-in-Ok-one_block-clause-step c =
    let I = c.args.disk.now.image.now in
    let L = c.args.disk.now.layout.now in
    let x = c.in-Ok.lbn in
    let b = c.args.block.now in
    let found = c.in-Ok.ensures.ok in
    subst (λ J. IsStepOf I L c.args.who (WriteRequest c.args.file c.args.vbn b) Done J L)
    (applied_set I x b ∙ ap (applied I) (sym c.in-Ok-one_block.ensures))
    (write_is_step c.requires found.plain found.held b (λ C shown. fault_write C c.args.who c.args.file c.args.vbn b ∙ found.fine C shown))

pub returns-in-Ok-one_block-clause-known : goal.returns-in-Ok-one_block-clause-known
returns-in-Ok-one_block-clause-known c = λ end known.
    let I = c.args.disk.now.image.now in
    let L = c.args.disk.now.layout.now in
    let x = c.in-Ok.lbn in
    let b = c.args.block.now in
    let found = c.in-Ok.ensures.ok in
    let made = applied_set I x b ∙ ap (applied I) (sym c.in-Ok-one_block.ensures) in
    subst (λ M. IsKnownIn (applied I c.in-Ok-one_block.draft) M end) (sym (no_places L [] refl))
    (subst (λ J. IsKnownIn J L end) made (write_keeps_ends c.requires found.plain found.held b end known))

pub returns-in-Err-one_block-clause-step : goal.returns-in-Err-one_block-clause-step
returns-in-Err-one_block-clause-step c =
    refused_for_memory c.args.disk.now.image.now c.args.disk.now.layout.now c.args.who (WriteRequest c.args.file c.args.vbn c.args.block.now) refl
    (λ C shown. fault_write C c.args.who c.args.file c.args.vbn c.args.block.now ∙ c.in-Ok.ensures.ok.fine C shown)
