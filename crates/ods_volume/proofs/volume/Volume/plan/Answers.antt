use Rattle.std.proofs.Common.{sym, subst, arith}
use Rattle.std.specs.Prelude.{Ok}
use Rattle.ods_request.specs.declared.refusals.Refusal.TheVariants as refusal
use Rattle.ods_request.specs.declared.requests.Request.{Request}
use Rattle.ods_space.specs.Draft.{applied}
use Rattle.ods_space.specs.Layout.{with_places}
use Rattle.ods_state.specs.Outcome.{Plan}
use Rattle.ods_state.specs.Version.{State}
use Rattle.ods_volume.specs.Kept.{state_of}
use Rattle.ods_volume.specs.Preparing.{IsPlanned, IsPrepared, IsWhyNotPlanned, plan_of}
use Rattle.ods_volume.proofs.Reasons.{copy_takes_memory}
use Rattle.ods_volume.proofs.Whys.{block_takes_memory, full_is_why, planned_is_prepared, refusal_is_why, short_is_why}
use Rattle.ods_volume.proofs.volume.Volume.plan.Goals as goal

pub returns-then-len-self : goal.returns-then-len-self
returns-then-len-self c =
    subst (λ (v : State). IsWhyNotPlanned v c.args.who c.args.request.now refusal.ListFull) c.self.view_is
    (full_is_why (state_of c.self.inside) c.self.invariant.lawful c.args.who c.args.request.now (omega arith)) c.args.session c.args.nth

pub returns-in-Err : goal.returns-in-Err
returns-in-Err c =
    subst (λ (v : State). IsWhyNotPlanned v c.args.who c.args.request.now c.in-Err.refusal) c.self.view_is
    (refusal_is_why (state_of c.self.inside) c.self.invariant.lawful c.args.who c.args.request.now c.in-Err.refusal (omega arith) c.in-Err.ensures) c.args.session c.args.nth

pub returns-in_default : goal.returns-in_default
returns-in_default c =
    let p = c.in-Ok.change in
    let planned : IsPlanned (state_of c.self.inside) c.args.who c.args.request.now c.prepare.new.answer p = record { room = omega arith; change = c.in-Ok.ensures } in
    subst (λ (v : State). IsWhyNotPlanned v c.args.who c.args.request.now refusal.NoMemory) c.self.view_is
    (short_is_why (state_of c.self.inside) c.self.invariant.lawful c.args.who c.args.request.now c.prepare.new.answer p planned (block_takes_memory c.args.request.now c.in_default.ensures.err))
    c.args.session c.args.nth

pub returns-in-Err-of : goal.returns-in-Err-of
returns-in-Err-of c =
    let p = c.in-Ok.change in
    let planned : IsPlanned (state_of c.self.inside) c.args.who c.args.request.now c.prepare.new.answer p = record { room = omega arith; change = c.in-Ok.ensures } in
    let takes = copy_takes_memory (state_of c.self.inside) c.self.invariant.lawful c.args.who c.args.request.now c.prepare.new.answer (applied c.self.inside.sound.image p.changes) (with_places c.self.inside.sound.layout p.places)
    c.in-Ok.ensures.step c.in-Err-of.ensures.err in
    subst (λ (v : State). IsWhyNotPlanned v c.args.who c.args.request.now refusal.NoMemory) c.self.view_is
    (short_is_why (state_of c.self.inside) c.self.invariant.lawful c.args.who c.args.request.now c.prepare.new.answer p planned takes) c.args.session c.args.nth

pub returns-in-Ok-of-2 : goal.returns-in-Ok-of-2
returns-in-Ok-of-2 c =
    let p = c.in-Ok.change in
    let a = c.prepare.new.answer in
    let planned : IsPlanned (state_of c.self.inside) c.args.who c.args.request.now a p = record { room = omega arith; change = c.in-Ok.ensures } in
    subst (λ (made : Plan). IsPrepared c.args.self.now c.args.session c.args.nth c.args.who c.args.request.now (Ok made)) (sym c.in-Ok-of-2.ensures.ok)
    (subst (λ (q : Request). IsPrepared c.args.self.now c.args.session c.args.nth c.args.who c.args.request.now (Ok (plan_of c.args.session c.args.nth c.args.who q a p))) (sym c.in-Ok-of.ensures.ok)
    (subst (λ (v : State). IsPrepared v c.args.session c.args.nth c.args.who c.args.request.now (Ok (plan_of c.args.session c.args.nth c.args.who c.args.request.now a p))) c.self.view_is
    (planned_is_prepared (state_of c.self.inside) c.self.invariant.lawful c.args.who c.args.request.now a p planned c.args.session c.args.nth)))
