use Rattle.ods_space.proofs.Growing.{places_stay}
use Rattle.ods_space.proofs.laws.places_stay.Goals as goal

pub returns : goal.returns
returns c = places_stay
