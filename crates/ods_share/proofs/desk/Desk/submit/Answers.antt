use Rattle.std.proofs.Common.{◌≡◌, sym, ◌∙◌, subst, Err}
use Rattle.ods_state.specs.Version.{State}
use Rattle.ods_state.specs.Wants.{Lacks}
use Rattle.ods_state.specs.Outcome.{entry_of}
use Rattle.ods_share.specs.Desks.{IsDeskReason}
use Rattle.ods_share.proofs.Carried.{grows}
use Rattle.ods_share.proofs.Desks.{begins_same, desk_reasons}
use Rattle.ods_share.proofs.Refusals.{planned_has_none, planned_lacks_nothing, refused_is_first, made_is_accepted, made_or_no_memory, made_or_same}
use Rattle.ods_share.proofs.desk.Desk.submit.Goals as goal

pub returns-in-Err-clause-refused : goal.returns-in-Err-clause-refused
returns-in-Err-clause-refused g c = refused_is_first c.self.inside.volume c.args.self.now c.args.who c.args.request c.in-Err.refusal c.self.view_is c.in-Err.ensures.refused

pub returns-in-Err-clause-reason : goal.returns-in-Err-clause-reason
returns-in-Err-clause-reason g c =
    subst (λ (v : State). IsDeskReason v c.args.who c.args.request c.in-Err.refusal) c.self.view_is
    (desk_reasons c.self.inside.volume c.args.who c.args.request (Err c.in-Err.refusal) c.in-Err.ensures.reason)

pub returns-in-Err-clause-grown : goal.returns-in-Err-clause-grown
returns-in-Err-clause-grown g c = begins_same c.args.self.now.entries c.tell.result c.tell.ensures

pub returns-in-Ok-clause-refused : goal.returns-in-Ok-clause-refused
returns-in-Ok-clause-refused g c =
    planned_has_none c.self.inside.volume c.args.self.now c.args.who c.args.request c.in-Ok.prepared c.apply_and_show.result.0 c.self.view_is c.in-Ok.ensures.refused

pub returns-in-Ok-clause-accepted : goal.returns-in-Ok-clause-accepted
returns-in-Ok-clause-accepted g c =
    made_is_accepted c.args.self.now c.apply_and_show.new.self c.in-Ok.prepared.entry (entry_of c.args.session c.args.nth c.args.who c.args.request)
    c.apply_and_show.result.0 c.in-Ok.ensures.plan.1 c.apply_and_show.ensures.accepted

pub returns-in-Ok-clause-lacking : goal.returns-in-Ok-clause-lacking
returns-in-Ok-clause-lacking g c = λ f lacks.
    planned_lacks_nothing c.in-Ok.prepared c.apply_and_show.result.0
    (c.in-Ok.ensures.lacking f (subst (λ (v : State). Lacks v.image v.layout c.args.request f) (sym c.self.view_is) lacks))

pub returns-in-Ok-clause-reason : goal.returns-in-Ok-clause-reason
returns-in-Ok-clause-reason g c =
    made_or_no_memory c.args.self.now c.args.who c.args.request (c.apply_and_show.new.self ≡ c.args.self.now) c.apply_and_show.result.0 c.apply_and_show.ensures.refused

pub returns-in-Ok-clause-unchanged : goal.returns-in-Ok-clause-unchanged
returns-in-Ok-clause-unchanged g c = made_or_same (c.apply_and_show.new.self ≡ c.args.self.now) c.apply_and_show.result.0 c.apply_and_show.ensures.refused

pub returns-in-Ok-clause-grown : goal.returns-in-Ok-clause-grown
returns-in-Ok-clause-grown g c =
    let old = c.args.self.now in
    let new = c.apply_and_show.new.self in
    let e = entry_of c.args.session c.args.nth c.args.who c.args.request in
    let result = c.apply_and_show.result.0 in
    let accepted = made_is_accepted old new c.in-Ok.prepared.entry e result c.in-Ok.ensures.plan.1 c.apply_and_show.ensures.accepted in
    let b = grows old new e result accepted (made_or_same (new ≡ old) result c.apply_and_show.ensures.refused) in
    (b.0, c.apply_and_show.ensures.told ∙ b.1)
