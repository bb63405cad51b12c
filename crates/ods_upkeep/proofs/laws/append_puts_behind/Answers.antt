use Rattle.ods_upkeep.proofs.LawsAppended.{append_puts_behind}
use Rattle.ods_upkeep.proofs.laws.append_puts_behind.Goals as goal

pub returns : goal.returns
returns c = append_puts_behind
