use Rattle.ods_state.proofs.Steps.{lawful_after}
use Rattle.ods_state.proofs.laws.step_stays_lawful.Goals as goal

pub returns : goal.returns
returns c = lawful_after
