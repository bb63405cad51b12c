use Rattle.ods_upkeep.proofs.LawsPut.{leaf_comes_back}
use Rattle.ods_upkeep.proofs.laws.leaf_comes_back.Goals as goal

pub returns : goal.returns
returns c = leaf_comes_back
