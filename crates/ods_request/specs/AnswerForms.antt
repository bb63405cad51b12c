-- The forms of a compact answer.
use Rattle.ods_request.specs.declared.answers.Answer.{Answer}
use Rattle.ods_request.specs.declared.answers.Answer.TheVariants as answer
use Rattle.ods_request.specs.declared.compact_answer.AnswerForm.{AnswerForm}
use Rattle.ods_request.specs.declared.compact_answer.AnswerForm.TheVariants as form

-- the answer that the form stores
abbrev pub answer_in : AnswerForm → Answer
answer_in (form.Created id) = answer.Created id
answer_in (form.Extended count) = answer.Extended count
answer_in (form.Truncated count) = answer.Truncated count
answer_in form.Done = answer.Done
answer_in (form.Entered version) = answer.Entered version
answer_in (form.Found file version) = answer.Found file version
answer_in (form.Removed file version) = answer.Removed file version
answer_in (form.Bytes block) = answer.Bytes block.value
answer_in (form.Names lines) = answer.Names lines
answer_in (form.Info stat) = answer.Info stat.value
