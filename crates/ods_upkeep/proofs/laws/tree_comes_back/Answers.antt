use Rattle.ods_upkeep.proofs.LawsPut.{tree_comes_back}
use Rattle.ods_upkeep.proofs.laws.tree_comes_back.Goals as goal

pub returns : goal.returns
returns c = tree_comes_back
