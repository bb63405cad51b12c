use Rattle.ods_state.proofs.Exists.{the_catalogue, has_catalogue, is_shown}
use Rattle.ods_state.proofs.laws.has_catalogue.Goals as goal

pub returns : goal.returns
returns c = λ I L S. (the_catalogue I L S, has_catalogue I L S, is_shown I L S)
