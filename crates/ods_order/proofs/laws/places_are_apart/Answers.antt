use Rattle.ods_order.proofs.Places.{apart}
use Rattle.ods_order.proofs.laws.places_are_apart.Goals as goal

pub returns : goal.returns
returns c = apart
