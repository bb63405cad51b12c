use Rattle.ods_state.proofs.IndexSound as law
use Rattle.ods_state.proofs.laws.grown_index_is_sound.Goals as goal

pub returns : goal.returns
returns c = law.grown_index_sound
