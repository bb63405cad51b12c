use Rattle.std.proofs.Common.{refl, sym, subst}
use Rattle.std.specs.Prelude.{Result, Ok, Err}
use Rattle.ods_request.specs.declared.answers.Answer.{Answer}
use Rattle.ods_request.specs.declared.refusals.Refusal.{Refusal}
use Rattle.ods_request.specs.declared.refusals.Refusal.TheVariants as refusal
use Rattle.ods_share.proofs.Desks.{begins_same}
use Rattle.ods_share.proofs.Submitted.{IsToldAs, denied_as_planned, made_as_planned, made_as_told, made_grows}
use Rattle.ods_share.proofs.desk.Desk.submit_and_show.Goals as goal

pub returns-in-Err-clause-submitted : goal.returns-in-Err-clause-submitted
returns-in-Err-clause-submitted g c =
    denied_as_planned c.self.inside.volume c.args.self.now c.args.session c.args.nth c.args.who c.args.request.now c.in-Err.fault c.self.view_is c.in-Err.ensures

pub returns-in-Err-clause-grown : goal.returns-in-Err-clause-grown
returns-in-Err-clause-grown g c = begins_same c.args.self.now.entries c.tell.result c.tell.ensures

pub returns-in_default-clause-submitted : goal.returns-in_default-clause-submitted
returns-in_default-clause-submitted g c =
    made_as_planned c.self.inside.volume c.args.self.now c.args.self.now c.args.session c.args.nth c.args.who c.args.request.now c.in-Ok.planned (Err refusal.NoMemory) c.self.view_is c.in-Ok.ensures tt (refl, refl)

pub returns-in_default-clause-grown : goal.returns-in_default-clause-grown
returns-in_default-clause-grown g c = begins_same c.args.self.now.entries c.tell-in_default.result c.tell-in_default.ensures

pub returns-in-Ok-done-clause-submitted : goal.returns-in-Ok-done-clause-submitted
returns-in-Ok-done-clause-submitted g c =
    made_as_told c.self.inside.volume c.args.self.now c.apply_and_show-done.new.self c.args.session c.args.nth c.args.who c.args.request.now c.in-Ok.planned c.apply_and_show-done.result.0 (Ok c.in-Ok-copy_answer.answer) c.self.view_is c.in-Ok.ensures
    c.apply_and_show-done.ensures.accepted c.apply_and_show-done.ensures.refused (subst (λ (r : Result Answer Refusal). IsToldAs c.in-Ok.planned.entry.answer r (Ok c.in-Ok-copy_answer.answer)) (sym c.in-Ok-done.is) c.in-Ok-copy_answer.ensures)

pub returns-in-Err-done-clause-submitted : goal.returns-in-Err-done-clause-submitted
returns-in-Err-done-clause-submitted g c =
    made_as_told c.self.inside.volume c.args.self.now c.apply_and_show-done.new.self c.args.session c.args.nth c.args.who c.args.request.now c.in-Ok.planned c.apply_and_show-done.result.0 (Err c.in-Err-done.fault) c.self.view_is c.in-Ok.ensures
    c.apply_and_show-done.ensures.accepted c.apply_and_show-done.ensures.refused (subst (λ (r : Result Answer Refusal). IsToldAs c.in-Ok.planned.entry.answer r (Err c.in-Err-done.fault)) (sym c.in-Err-done.is) refl)

pub returns-in-Err-done-clause-grown : goal.returns-in-Err-done-clause-grown
returns-in-Err-done-clause-grown g c =
    made_grows c.args.self.now c.apply_and_show-done.new.self c.args.session c.args.nth c.args.who c.args.request.now (Err c.in-Err-done.fault) c.apply_and_show-done.result.1 (returns-in-Err-done-clause-submitted g c) c.apply_and_show-done.ensures.told
