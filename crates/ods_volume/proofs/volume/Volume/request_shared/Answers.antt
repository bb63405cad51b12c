use Rattle.std.proofs.Common.{◌∙◌, ap, refl, sym, subst, inl, inr}
use Rattle.ods_request.specs.declared.requests.Request.{Request}
use Rattle.ods_state.specs.Outcome.{IsLawfulPlan, carried_out}
use Rattle.ods_volume.specs.Preparing.{plan_of}
use Rattle.ods_volume.proofs.Whys.{planned_is_prepared}
use Rattle.ods_volume.proofs.volume.Volume.request_shared.Goals as goal

pub returns-in-Err : goal.returns-in-Err
returns-in-Err c = (refl, inl (c.in-Err.ensures c.args.session c.args.nth))

pub returns-in_default : goal.returns-in_default
returns-in_default c =
    let p = c.in-Ok.planned.1 in
    let a = c.plan_shared.new.answer in (
      refl,
      inr (
        refl,
        (
          plan_of c.args.session c.args.nth c.args.who c.args.request.now a p,
          planned_is_prepared c.args.self.now c.is_lawful.ensures c.args.who c.args.request.now a p c.in-Ok.ensures.1 c.args.session c.args.nth,
        ),
      ),
    )

pub store_answered-requires-clause-plan : goal.store_answered-requires-clause-plan
store_answered-requires-clause-plan c =
    let p = c.in-Ok.planned.1 in
    let a = c.plan_shared.new.answer in
    let prepared = planned_is_prepared c.args.self.now c.is_lawful.ensures c.args.who c.args.request.now a p c.in-Ok.ensures.1 c.args.session c.args.nth in
    subst (λ (q : Request). IsLawfulPlan c.args.self.now (plan_of c.args.session c.args.nth c.args.who q a p)) (sym c.in-Ok.ensures.0) prepared.plan.0

pub returns : goal.returns
returns c =
    let p = c.in-Ok.planned.1 in
    let a = c.plan_shared.new.answer in (
      plan_of c.args.session c.args.nth c.args.who c.args.request.now a p,
      planned_is_prepared c.args.self.now c.is_lawful.ensures c.args.who c.args.request.now a p c.in-Ok.ensures.1 c.args.session c.args.nth,
      c.in-Ok-copy_of.ensures.ok,
      c.store_answered.ensures ∙ ap (λ (q : Request). carried_out c.args.self.now (plan_of c.args.session c.args.nth c.args.who q a p)) c.in-Ok.ensures.0,
    )
