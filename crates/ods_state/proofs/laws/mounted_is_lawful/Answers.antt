use Rattle.ods_state.proofs.Opening.{new_is_lawful}
use Rattle.ods_state.proofs.laws.mounted_is_lawful.Goals as goal

pub returns : goal.returns
returns c = λ I L limit S. new_is_lawful I L S limit
