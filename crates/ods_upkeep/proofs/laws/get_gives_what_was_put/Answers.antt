use Rattle.ods_upkeep.proofs.LawsGot.{get_gives_what_was_put}
use Rattle.ods_upkeep.proofs.laws.get_gives_what_was_put.Goals as goal

pub returns : goal.returns
returns c = get_gives_what_was_put
