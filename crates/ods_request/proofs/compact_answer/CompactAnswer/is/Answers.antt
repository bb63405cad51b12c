use Rattle.std.proofs.Common.{◌≡◌, sym, ap, ◌∙◌, rules}
use Rattle.ods_request.specs.declared.answers.Answer.TheVariants as answer
use Rattle.ods_request.specs.Equal.{same_stat}
use Rattle.ods_request.specs.AnswerForms.{answer_in}
use Rattle.ods_request.proofs.Equals.{told_by}
use Rattle.ods_request.proofs.compact_answer.CompactAnswer.is.Goals as goal

pub returns-in-Names-Names : goal.returns-in-Names-Names
returns-in-Names-Names c =
    told_by c.eq-in-Names-Names.result c.args.self.now c.args.answer.now (answer.Names c.in-Names-Names.one) (answer.Names c.in-Names-Names.other)
    (sym c.self.view_is ∙ ap answer_in c.in-Names-Names.is-0) c.in-Names-Names.is-1 c.eq-in-Names-Names.ensures

pub returns-in-Info-Info : goal.returns-in-Info-Info
returns-in-Info-Info c =
    let test : c.eq-in-Info-Info.result ≡ same_stat c.in-Info-Info.one.value c.in-Info-Info.other = search rules in
    told_by c.eq-in-Info-Info.result c.args.self.now c.args.answer.now (answer.Info c.in-Info-Info.one.value) (answer.Info c.in-Info-Info.other)
    (sym c.self.view_is ∙ ap answer_in c.in-Info-Info.is-0) c.in-Info-Info.is-1 test
