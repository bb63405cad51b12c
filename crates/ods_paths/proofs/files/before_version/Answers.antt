use Rattle.ods_paths.specs.Paths.{begins_version}
use Rattle.ods_text.proofs.Firsts.{front_is}
use Rattle.ods_paths.proofs.files.before_version.Goals as goal

pub returns : goal.returns
returns c = front_is begins_version c.args.text.now c.place_of_version.result c.place_of_version.ensures
