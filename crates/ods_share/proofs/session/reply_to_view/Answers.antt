use Rattle.std.specs.Prelude.{Ok, Err}
use Rattle.std.proofs.Common.{sym, subst}
use Rattle.ods_request.specs.declared.answers.Answer.{Answer}
use Rattle.ods_request.specs.declared.refusals.Refusal.{Refusal}
use Rattle.ods_views.specs.Viewers.{Asked}
use Rattle.ods_views.specs.declared.viewer.ViewFault.{ViewFault}
use Rattle.ods_share.specs.Scripts.{IsSeen}
use Rattle.ods_share.proofs.Fulls.{view_is_other}
use Rattle.ods_share.proofs.session.reply_to_view.Goals as goal

pub returns-in_ok-compact-in-Ok-clause-view : goal.returns-in_ok-compact-in-Ok-clause-view
returns-in_ok-compact-in-Ok-clause-view g c =
    let from = c.in-Ok.ensures.answer in
    subst (λ (a : Answer). IsSeen g.J.Naming.mounted c.args.viewer.now.seen c.args.who c.args.query (Ok a) c.ask.new.self.seen) (sym c.in_ok-compact-in-Ok.ensures.ok)
    record { later = c.in-Ok.ensures.later; leads = from.1; answers = from.2 }

pub returns-in-Err-Refused-clause-view : goal.returns-in-Err-Refused-clause-view
returns-in-Err-Refused-clause-view g c =
    let told : ViewFault → Type 0 = λ f. Asked g.J.Naming.mounted c.args.viewer.now c.ask.new.self c.args.who c.args.query (Err f) in
    let from = subst told c.in-Err-Refused.field-0-is c.in-Err-Refused.ensures.answer in
    subst (λ (r : Refusal). IsSeen g.J.Naming.mounted c.args.viewer.now.seen c.args.who c.args.query (Err r) c.ask.new.self.seen) (sym c.in-Err-Refused.refusal-is)
    record { later = c.in-Err-Refused.ensures.later; leads = from.1; answers = from.2 }

pub returns-in-Err-Refused-clause-never_full : goal.returns-in-Err-Refused-clause-never_full
returns-in-Err-Refused-clause-never_full g c =
    view_is_other g.J.Naming.mounted c.args.viewer.now.seen c.args.who c.args.query _ c.ask.new.self.seen (returns-in-Err-Refused-clause-view g c)
