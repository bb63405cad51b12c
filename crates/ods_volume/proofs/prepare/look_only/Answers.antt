use Rattle.ods_request.specs.Queries.{request_of}
use Rattle.ods_change.proofs.StillLayout.{step_still}
use Rattle.ods_volume.proofs.Looks.{look_by_none, query_looks}
use Rattle.ods_volume.proofs.prepare.look_only.Goals as goal

pub returns-in-Ok : goal.returns-in-Ok
returns-in-Ok c =
    step_still c.still.result c.still.ensures.draft c.still.ensures.places
    (look_by_none c.args.disk.now.image.now c.args.disk.now.layout.now c.requires.sound c.args.who (request_of c.args.query) c.look_into_noted.new.answer (query_looks c.args.query) c.in-Ok.ensures c.new.result c.new.ensures)
