use Rattle.ods_upkeep.proofs.LawsCopied.{copies_are_there}
use Rattle.ods_upkeep.proofs.laws.copies_are_there.Goals as goal

pub returns : goal.returns
returns c = copies_are_there
