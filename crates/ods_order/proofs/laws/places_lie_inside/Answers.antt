use Rattle.ods_order.proofs.Places.{inside}
use Rattle.ods_order.proofs.laws.places_lie_inside.Goals as goal

pub returns : goal.returns
returns c = inside
