use Rattle.ods_space.proofs.AsFar.{reached_is_one}
use Rattle.ods_space.proofs.laws.reached_is_one.Goals as goal

pub returns : goal.returns
returns c = reached_is_one
