use Rattle.std.proofs.Common.{◌≡◌, sym, ◌∙◌, rules}
use Rattle.ods_request.specs.declared.answers.Answer.TheVariants as answer
use Rattle.ods_request.specs.Equal.{same_stat}
use Rattle.ods_request.specs.RequestTests.{answers_decide}
use Rattle.ods_volume.proofs.entries.is_stat.Goals as goal

pub returns-in-Info : goal.returns-in-Info
returns-in-Info c =
    let test : c.eq.result ≡ same_stat c.in-Info.other c.args.stat.now = search rules in
    let decides = answers_decide (answer.Info c.in-Info.other) (answer.Info c.args.stat.now) in
    (λ h. c.in-Info.is ∙ decides.0 (sym test ∙ h), λ e. test ∙ decides.1 (sym c.in-Info.is ∙ e))
