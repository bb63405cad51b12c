use Rattle.std.proofs.Common.{arith}
use Rattle.ods_request.specs.declared.requests.Request.TheVariants.{Truncate}
use Rattle.ods_filing.proofs.Led.{asked}
use Rattle.ods_upkeep.proofs.Cutting.{cut_off}
use Rattle.ods_upkeep.proofs.Lists.{if_done}
use Rattle.ods_upkeep.proofs.truncating.at_most.Goals as goal

pub returns-clause-led : goal.returns-clause-led
returns-clause-led c = asked (Truncate c.args.facts.now.file c.args.blocks) tt c.obey.ensures.asked

pub returns-clause-done : goal.returns-clause-done
returns-clause-done c =
    if_done c.obey.result (cut_off c.args.filing.now c.obey.new.filing c.args.facts.now.file c.args.blocks c.args.facts.now.blocks (omega arith)) c.obey.ensures.done
