use Rattle.ods_walk.proofs.Directories.{lists_the_names}
use Rattle.ods_walk.proofs.laws.lists_the_names.Goals as goal

pub returns : goal.returns
returns c = lists_the_names
