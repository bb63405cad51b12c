use Rattle.ods_request.specs.declared.requests.Request.TheVariants.{Remove}
use Rattle.ods_base.specs.declared.name.Pick.TheVariants.{Exact}
use Rattle.ods_filing.proofs.Led.{asked}
use Rattle.ods_upkeep.proofs.removing.remove_place.Goals as goal

pub returns-in-Some-clause-led : goal.returns-in-Some-clause-led
returns-in-Some-clause-led c =
    let place = c.in-Some.place in
    asked (Remove place.directory place.entry.name (Exact place.entry.version)) tt c.remove_at.ensures.asked
