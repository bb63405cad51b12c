use Rattle.std.proofs.Common.{refl}
use Rattle.ods_request.specs.declared.requests.Request.TheVariants.{Delete}
use Rattle.ods_filing.proofs.Led.{asked}
use Rattle.ods_upkeep.proofs.removing.delete_unnamed.Goals as goal

pub returns-then-count-eq0-clause-led : goal.returns-then-count-eq0-clause-led
returns-then-count-eq0-clause-led c = asked (Delete c.in-Some.facts.file) refl c.delete.ensures.asked
