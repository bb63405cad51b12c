use Rattle.ods_state.proofs.StepBehind as law
use Rattle.ods_state.proofs.laws.step_behind_growth.Goals as goal

pub returns : goal.returns
returns c = law.step_behind_growth
