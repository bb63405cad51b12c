use Rattle.std.proofs.Common.{subst}
use Rattle.std.specs.Prelude.{Result, IfErr, OnErr, ◌≡◌}
use Rattle.ods_request.specs.declared.answers.Answer.{Answer}
use Rattle.ods_request.specs.declared.refusals.Refusal.{Refusal}
use Rattle.ods_share.specs.Desks.{IsDeskReason}
use Rattle.ods_share.proofs.Fulls.{still_full, none_after}
use Rattle.ods_share.proofs.counter.Counter.submit.Goals as goal

pub invariant_of-self : goal.invariant_of-self
invariant_of-self g c = λ some.
    absurd (none_after c.self.inside.desk c.submit_shared-result.result.0 c.in-Ok.answer c.self.inside.fulls.total c.in-Ok.is
    c.submit_shared-result.ensures.submitted.full c.self.invariant some)

pub invariant_of-self-in-Err : goal.invariant_of-self-in-Err
invariant_of-self-in-Err g c =
    let v = c.self.inside.desk in
    let made = c.submit_shared-result.ensures.submitted in
    let reason = subst (λ (r : Result Answer Refusal). IfErr r (IsDeskReason v c.args.who c.args.request.now)) c.in-Err.is made.reason in
    let same = subst (λ (r : Result Answer Refusal). OnErr r (c.submit_shared-result.new.self ≡ v)) c.in-Err.is made.unchanged in
    still_full v c.submit_shared-result.new.self c.args.who c.args.request.now c.in-Err.refusal c.self.inside.fulls.total c.count.new.fulls.total same reason c.count.ensures.total c.self.invariant
