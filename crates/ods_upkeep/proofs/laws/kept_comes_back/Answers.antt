use Rattle.ods_upkeep.proofs.LawsForms.{kept_comes_back}
use Rattle.ods_upkeep.proofs.laws.kept_comes_back.Goals as goal

pub returns : goal.returns
returns c = kept_comes_back
