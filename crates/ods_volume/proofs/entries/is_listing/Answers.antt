use Rattle.std.proofs.Common.{◌≡◌, sym, ◌∙◌, rules}
use lib.Pointwise.{pointwise}
use Rattle.ods_request.specs.declared.answers.Answer.TheVariants as answer
use Rattle.ods_request.specs.Equal.{same_line}
use Rattle.ods_request.specs.RequestTests.{answers_decide}
use Rattle.ods_volume.proofs.entries.is_listing.Goals as goal

pub returns-in-Names : goal.returns-in-Names
returns-in-Names c =
    let test : c.eq.result ≡ pointwise same_line c.in-Names.others c.args.lines.now = search rules in
    let decides = answers_decide (answer.Names c.in-Names.others) (answer.Names c.args.lines.now) in
    (λ h. c.in-Names.is ∙ decides.0 (sym test ∙ h), λ e. test ∙ decides.1 (sym c.in-Names.is ∙ e))
