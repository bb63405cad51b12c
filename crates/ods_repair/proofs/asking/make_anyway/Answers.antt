use Rattle.std.proofs.Common.{◌≢◌, subst}
use Rattle.std.specs.Prelude.{IfErr}
use Rattle.ods_filing.specs.Filed.{Filed}
use Rattle.ods_request.specs.declared.refusals.Refusal.TheVariants.{Denied}
use Rattle.ods_repair.specs.Asked.{IsNotMade}
use Rattle.ods_repair.proofs.asking.make_anyway.Goals as goal

pub returns-in-Err-Denied-clause-refused : goal.returns-in-Err-Denied-clause-refused
returns-in-Err-Denied-clause-refused c =
    subst (λ (f : Filed). IfErr c.make_bare.result (λ reason. (reason ≢ Denied) × IsNotMade f c.args.request.now c.make_bare.new.filing reason)) c.in-Err-Denied.ensures.unchanged c.make_bare.ensures.refused
