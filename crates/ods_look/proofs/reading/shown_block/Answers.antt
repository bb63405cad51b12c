use Rattle.std.proofs.Common.{[], ◌∙◌, ap, sym}
use Rattle.ods_request.specs.declared.answers.Answer.TheVariants.{Bytes}
use Rattle.ods_request.specs.declared.requests.Request.TheVariants.{Read as ReadRequest}
use Rattle.ods_request.proofs.FaultTable.{fault_read}
use Rattle.ods_state.proofs.OneBlock.{held_inside}
use Rattle.ods_state.proofs.Served.{refused_by_fault}
use Rattle.ods_look.proofs.BlocksRead.{read_block_is}
use Rattle.ods_look.proofs.reading.shown_block.Goals as goal

pub returns-in-Err : goal.returns-in-Err
returns-in-Err c =
    refused_by_fault c.args.disk.now.image.now c.args.disk.now.layout.now c.args.who (ReadRequest c.args.file c.args.vbn) c.in-Err.refusal
    (λ C shown. fault_read C c.args.who c.args.file c.args.vbn ∙ c.in-Err.ensures.err C shown)

pub block-requires : goal.block-requires
block-requires c = held_inside c.args.disk.now.image.now c.args.disk.now.layout.now c.requires c.args.file.number c.args.vbn c.in-Ok.lbn [] c.in-Ok.ensures.ok.held

pub returns-in-Ok : goal.returns-in-Ok
returns-in-Ok c = λ C shown.
    let found = c.in-Ok.ensures.ok in
    let plain = found.plain in (
      fault_read C c.args.who c.args.file c.args.vbn ∙ found.fine C shown,
      read_block_is plain.held (plain.passes C shown) c.args.vbn plain.number plain.kind c.in-Ok.lbn found.held
          ∙ ap Bytes (sym c.block.ensures.value),
    )
