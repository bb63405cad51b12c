use Rattle.std.proofs.Common.{subst, arith}
use Rattle.ods_request.specs.declared.refusals.Refusal.TheVariants as refusal
use Rattle.ods_state.specs.Version.{State}
use Rattle.ods_volume.specs.Kept.{state_of}
use Rattle.ods_volume.specs.Preparing.{IsPlanned, IsWhyNotPlanned}
use Rattle.ods_volume.proofs.Whys.{block_takes_memory, full_is_why, refusal_is_why, short_is_why}
use Rattle.ods_volume.proofs.volume.Volume.plan_shared.Goals as goal

pub returns-then-len-self : goal.returns-then-len-self
returns-then-len-self c =
    subst (λ (v : State). IsWhyNotPlanned v c.args.who c.args.request.now refusal.ListFull) c.self.view_is
    (full_is_why (state_of c.self.inside) c.self.invariant.lawful c.args.who c.args.request.now (omega arith))

pub returns-in-Err : goal.returns-in-Err
returns-in-Err c =
    subst (λ (v : State). IsWhyNotPlanned v c.args.who c.args.request.now c.in-Err.refusal) c.self.view_is
    (refusal_is_why (state_of c.self.inside) c.self.invariant.lawful c.args.who c.args.request.now c.in-Err.refusal (omega arith) c.in-Err.ensures)

pub returns-in_default : goal.returns-in_default
returns-in_default c =
    let planned : IsPlanned (state_of c.self.inside) c.args.who c.args.request.now c.prepare_shared.new.answer c.in-Ok.change = record { room = omega arith; change = c.in-Ok.ensures } in
    subst (λ (v : State). IsWhyNotPlanned v c.args.who c.args.request.now refusal.NoMemory) c.self.view_is
    (short_is_why (state_of c.self.inside) c.self.invariant.lawful c.args.who c.args.request.now c.prepare_shared.new.answer c.in-Ok.change planned (block_takes_memory c.args.request.now c.in_default.ensures.err))

pub returns : goal.returns
returns c =
    let planned : IsPlanned (state_of c.self.inside) c.args.who c.args.request.now c.prepare_shared.new.answer c.in-Ok.change = record { room = omega arith; change = c.in-Ok.ensures } in
    (c.in-Ok-share.ensures.ok, subst (λ (v : State). IsPlanned v c.args.who c.args.request.now c.prepare_shared.new.answer c.in-Ok.change) c.self.view_is planned)
