use Rattle.ods_order.proofs.Laying.{first_stays}
use Rattle.ods_order.proofs.laws.first_track_stays.Goals as goal

pub returns : goal.returns
returns c = first_stays
