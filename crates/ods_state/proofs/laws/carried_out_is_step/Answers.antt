use Rattle.ods_state.proofs.Served.{carried_is_step}
use Rattle.ods_state.proofs.laws.carried_out_is_step.Goals as goal

pub returns : goal.returns
returns c = λ I J L who r a stays enough out. carried_is_step I L who r a J stays enough out
