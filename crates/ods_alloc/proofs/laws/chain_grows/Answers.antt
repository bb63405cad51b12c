use Rattle.ods_alloc.proofs.Longer as longer
use Rattle.ods_alloc.proofs.laws.chain_grows.Goals as goal

pub returns : goal.returns
returns c = longer.chain_grows
