use Rattle.ods_filing.proofs.Led.{lists_are_steps}
use Rattle.ods_filing.proofs.laws.lists_are_steps.Goals as goal

pub returns : goal.returns
returns c = lists_are_steps
