use Rattle.ods_order.proofs.Laying.{one_way}
use Rattle.ods_order.proofs.laws.laid_out_in_one_way.Goals as goal

pub returns : goal.returns
returns c = one_way
