use Rattle.std.proofs.Common.{sym}
use Rattle.ods_volume.proofs.Arms.{others_change, refused_as, step_as}
use Rattle.ods_volume.proofs.prepare.carry_out.Goals as goal

pub returns-in-Ok-clause-step : goal.returns-in-Ok-clause-step
returns-in-Ok-clause-step c = step_as (sym ((c.as_query.ensures c.in-Some.query).0 c.in-Some.is)) c.in-Ok.ensures

pub returns-in-Err-clause-step : goal.returns-in-Err-clause-step
returns-in-Err-clause-step c = refused_as c.args.who c.in-Err.refusal (sym ((c.as_query.ensures c.in-Some.query).0 c.in-Some.is)) c.in-Err.ensures

pub returns-in-Ok-list_only-clause-step : goal.returns-in-Ok-list_only-clause-step
returns-in-Ok-list_only-clause-step c = step_as c.in-List.is c.in-Ok-list_only.ensures

pub returns-in-Err-list_only-clause-step : goal.returns-in-Err-list_only-clause-step
returns-in-Err-list_only-clause-step c = refused_as c.args.who c.in-Err-list_only.refusal c.in-List.is c.in-Err-list_only.ensures

pub change-requires-clause-changes : goal.change-requires-clause-changes
change-requires-clause-changes c =
    others_change c.args.request.now (λ q e. c.in_default.not-Some q ((c.as_query.ensures q).1 e)) c.in_default-request.not-List
