use Rattle.ods_upkeep.proofs.LawsCopied.{copy_is_there}
use Rattle.ods_upkeep.proofs.laws.copy_is_there.Goals as goal

pub returns : goal.returns
returns c = copy_is_there
