use Rattle.std.proofs.Common.{◌≡◌, sym, ◌∙◌, rules}
use Rattle.ods_request.specs.Equal.{same_answer}
use Rattle.ods_request.specs.RequestTests.{answers_decide}
use Rattle.ods_request.proofs.answers.Answer.is_same.Goals as goal

pub returns : goal.returns
returns c =
    let test : c.eq.result ≡ same_answer c.args.self.now c.args.other.now = search rules in
    let decides = answers_decide c.args.self.now c.args.other.now in
    (λ h. decides.0 (sym test ∙ h), λ e. test ∙ decides.1 e)
