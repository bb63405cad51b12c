use Rattle.ods_upkeep.proofs.LawsCopied.{copied_is_there}
use Rattle.ods_upkeep.proofs.laws.copied_is_there.Goals as goal

pub returns : goal.returns
returns c = copied_is_there
