use Rattle.ods_base.specs.declared.name.Pick.TheVariants.{Highest}
use Rattle.ods_request.specs.declared.requests.Request.TheVariants.{LookUp}
use Rattle.ods_filing.proofs.Led.{asked}
use Rattle.ods_upkeep.proofs.moving.version_for.Goals as goal

pub returns-in_default-obey-clause-led : goal.returns-in_default-obey-clause-led
returns-in_default-obey-clause-led c = asked (LookUp c.args.target.now.directory c.args.name Highest) tt c.obey.ensures.asked
