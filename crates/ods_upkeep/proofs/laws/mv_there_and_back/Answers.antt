use Rattle.ods_upkeep.proofs.LawsUndone.{mv_there_and_back}
use Rattle.ods_upkeep.proofs.laws.mv_there_and_back.Goals as goal

pub returns : goal.returns
returns c = mv_there_and_back
