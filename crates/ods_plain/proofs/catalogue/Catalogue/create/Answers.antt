use Rattle.ods_request.proofs.FrameLaws.{new_is_free}
use Rattle.ods_plain.proofs.catalogue.Catalogue.create.Goals as goal

pub add-requires-clause-absent : goal.add-requires-clause-absent
add-requires-clause-absent c = (new_is_free c.args.self.now c.args.id c.requires).0
