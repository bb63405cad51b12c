use Rattle.ods_space.proofs.AsFar.{whole_is_chain}
use Rattle.ods_space.proofs.laws.whole_is_chain.Goals as goal

pub returns : goal.returns
returns c = whole_is_chain
