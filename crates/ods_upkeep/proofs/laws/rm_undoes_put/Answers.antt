use Rattle.ods_upkeep.proofs.LawsUndone.{rm_undoes_put}
use Rattle.ods_upkeep.proofs.laws.rm_undoes_put.Goals as goal

pub returns : goal.returns
returns c = rm_undoes_put
