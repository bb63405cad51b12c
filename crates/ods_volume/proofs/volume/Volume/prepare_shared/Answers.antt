use Rattle.std.proofs.Common.{sym, subst}
use Rattle.std.specs.Prelude.{Ok}
use Rattle.ods_request.specs.declared.requests.Request.{Request}
use Rattle.ods_space.specs.Draft.{applied}
use Rattle.ods_space.specs.Layout.{with_places}
use Rattle.ods_state.specs.Outcome.{Plan}
use Rattle.ods_volume.specs.Preparing.{IsPrepared, plan_of}
use Rattle.ods_volume.proofs.Reasons.{copy_takes_memory}
use Rattle.ods_volume.proofs.Whys.{planned_is_prepared, short_is_why}
use Rattle.ods_volume.proofs.volume.Volume.prepare_shared.Goals as goal

pub returns-in-Err-of : goal.returns-in-Err-of
returns-in-Err-of c =
    let v = c.args.self.now in
    let p = c.in-Ok.planned.1 in
    let planned = c.in-Ok.ensures.1 in
    let takes = copy_takes_memory v c.is_lawful.ensures c.args.who c.args.request.now c.plan_shared.new.answer (applied v.image p.changes) (with_places v.layout p.places) planned.change.step c.in-Err-of.ensures.err in
    short_is_why v c.is_lawful.ensures c.args.who c.args.request.now c.plan_shared.new.answer p planned takes c.args.session c.args.nth

pub returns-in-Ok-of : goal.returns-in-Ok-of
returns-in-Ok-of c =
    let v = c.args.self.now in
    let p = c.in-Ok.planned.1 in
    let a = c.plan_shared.new.answer in
    subst (λ (made : Plan). IsPrepared v c.args.session c.args.nth c.args.who c.args.request.now (Ok made)) (sym c.in-Ok-of.ensures.ok)
    (subst (λ (q : Request). IsPrepared v c.args.session c.args.nth c.args.who c.args.request.now (Ok (plan_of c.args.session c.args.nth c.args.who q a p))) (sym c.in-Ok.ensures.0)
    (planned_is_prepared v c.is_lawful.ensures c.args.who c.args.request.now a p c.in-Ok.ensures.1 c.args.session c.args.nth))
