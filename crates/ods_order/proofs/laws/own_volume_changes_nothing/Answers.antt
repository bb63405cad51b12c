use Rattle.ods_order.proofs.Laying.{own_volume}
use Rattle.ods_order.proofs.laws.own_volume_changes_nothing.Goals as goal

pub returns : goal.returns
returns c = own_volume
