use Rattle.ods_order.proofs.Places.{filled}
use Rattle.ods_order.proofs.laws.each_byte_has_a_sector.Goals as goal

pub returns : goal.returns
returns c = filled
