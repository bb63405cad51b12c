use Rattle.ods_state.proofs.StepBehind as law
use Rattle.ods_state.proofs.laws.wants_stay.Goals as goal

pub returns : goal.returns
returns c = law.wants_stay
