use Rattle.std.proofs.Common.{◌≡◌, ◌≤◌, List, arith, rules, sym, ap, subst, length}
use Rattle.std.specs.Prelude.{Result, Ok, Err, MatchResult}
use Rattle.ods_request.specs.declared.answers.Answer.{Answer}
use Rattle.ods_request.specs.declared.answers.Entry.{Entry}
use Rattle.ods_request.specs.declared.refusals.Refusal.{Refusal}
use Rattle.ods_request.specs.Lists.{Begins}
use Rattle.ods_state.specs.Change.{IsAnsweredBy}
use Rattle.ods_state.specs.Outcome.{request_of}
use Rattle.ods_state.specs.Served.{IsRefusalOf}
use Rattle.ods_state.specs.Version.{IsVersionBy}
use Rattle.ods_views.specs.Viewers.{Viewed, Asked, AnswersFrom, LeadsOn, seen_by}
use Rattle.ods_views.specs.declared.rule.View.{View}
use Rattle.ods_views.specs.declared.version.Version.{Version}
use Rattle.ods_views.specs.declared.viewer.ViewFault.{ViewFault}
use Rattle.ods_views.proofs.Looked.{looked}
use Rattle.ods_views.proofs.viewer.Viewer.ask_into.Goals as goal
use Rattle.ods_views.proofs.viewer.Viewer.ask_into.Goals.{in-Ok-found, in-Err-found}

pub returns-after-found-clause-later : goal.returns-after-found-clause-later
returns-after-found-clause-later g c =
    let told = c.in-Ok.ensures.0 (subst (λ (x : Version). c.self.inside.least ≤ x.count) c.get-version.ensures c.if-version-least.false) in
    let before : seen_by c.in-Some.reader.place ≡ c.args.self.now.seen = search rules in
    let after : seen_by c.in-Ok.reading.place ≡ seen_by c.leave-in-Ok.result.place = ap (λ (v : View). v.seen) (sym c.leave-in-Ok.ensures.1) in
    subst (λ (l : List Entry). Begins c.args.self.now.seen l) after (subst (λ (l : List Entry). Begins l (seen_by c.in-Ok.reading.place)) before told.0)

pub returns-after-found-clause-answer : goal.returns-after-found-clause-answer
returns-after-found-clause-answer g c =
    let M = g.J.Naming.mounted in
    let seen = seen_by c.in-Ok.reading.place in
    let enough = subst (λ (x : Version). c.self.inside.least ≤ x.count) c.get-version.ensures c.if-version-least.false in
    let told = c.in-Ok.ensures.0 enough in
    let after : seen ≡ seen_by c.leave-in-Ok.result.place = ap (λ (v : View). v.seen) (sym c.leave-in-Ok.ensures.1) in
    let version = subst (λ (x : Version). IsVersionBy M seen x.image x.layout) (sym c.get-version.ensures) told.2 in
    let v : Viewed = record { seen = seen_by c.leave-in-Ok.result.place; least = c.self.inside.least } in
    let from : (r : Result Answer Refusal)
    → MatchResult r (IsAnsweredBy c.get-version.result.now.image c.get-version.result.now.layout c.args.who (request_of c.args.query))
    (IsRefusalOf c.get-version.result.now.image c.get-version.result.now.layout c.args.who (request_of c.args.query))
    → AnswersFrom M v c.args.who c.args.query r =
    λ r answers. (
      omega (arith, enough, told.1, ap length after),
      subst (LeadsOn M) after (version.catalogue, version.replayed),
      rw (sym after) (looked M seen c.get-version.result.now.image c.get-version.result.now.layout version c.args.who c.args.query r answers),
    ) in
    let a = c.look_into-found.new.answer in
    let Told : Result (Unit {0}) ViewFault → Type 0 =
    λ r. MatchResult r (λ _. Asked M c.args.self.now v c.args.who c.args.query (Ok a)) (λ f. Asked M c.args.self.now v c.args.who c.args.query (Err f) × (a ≡ c.args.answer.now)) in
    elim c.match-found.branch [
      | in-Ok-found w ↦ subst Told (sym w.result-is) (from (Ok a) w.in-Ok-found.ensures)
      | in-Err-found w ↦ subst Told (sym w.result-is) (from (Err w.in-Err-found.refusal) (w.in-Err-found.ensures.0), w.in-Err-found.ensures.1)
    ]
