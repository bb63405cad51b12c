use Rattle.std.proofs.Common.{◌≡◌, ap, sym, ◌∙◌, rules}
use Rattle.ods_request.specs.AnswerForms.{answer_in}
use Rattle.ods_request.specs.declared.answers.Answer.TheVariants as answer
use Rattle.ods_request.specs.Equal.{same_stat}
use Rattle.ods_request.specs.RequestTests.{answers_decide}
use Rattle.ods_volume.proofs.entries.has_stat.Goals as goal

pub returns-in-Info : goal.returns-in-Info
returns-in-Info c =
    let here : c.args.answer.now ≡ answer.Info c.in-Info.other.value = sym c.form.ensures ∙ ap answer_in c.in-Info.is in
    let test : c.eq.result ≡ same_stat c.in-Info.other.value c.args.stat.now = search rules in
    let decides = answers_decide (answer.Info c.in-Info.other.value) (answer.Info c.args.stat.now) in
    (λ h. here ∙ decides.0 (sym test ∙ h), λ e. test ∙ decides.1 (sym here ∙ e))
