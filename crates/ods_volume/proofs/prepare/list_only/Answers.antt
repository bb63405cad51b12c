use Rattle.std.proofs.Common.{refl}
use Rattle.ods_request.specs.declared.requests.Request.TheVariants.{List as Lines}
use Rattle.ods_request.specs.declared.answers.Answer.TheVariants.{Names}
use Rattle.ods_change.proofs.StillLayout.{step_still}
use Rattle.ods_volume.proofs.Looks.{look_by_none}
use Rattle.ods_volume.proofs.prepare.list_only.Goals as goal

pub returns-in-Ok : goal.returns-in-Ok
returns-in-Ok c =
    step_still c.still.result c.still.ensures.draft c.still.ensures.places
    (look_by_none c.args.disk.now.image.now c.args.disk.now.layout.now c.requires c.args.who (Lines c.args.dir) (Names c.in-Ok.lines) refl c.in-Ok.ensures c.new.result c.new.ensures)
