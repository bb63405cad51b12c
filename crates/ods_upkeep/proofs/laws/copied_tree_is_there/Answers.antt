use Rattle.ods_upkeep.proofs.LawsTrees.{copied_tree_is_there}
use Rattle.ods_upkeep.proofs.laws.copied_tree_is_there.Goals as goal

pub returns : goal.returns
returns c = copied_tree_is_there
