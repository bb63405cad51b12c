-- What the test of two answers says of two values that are these answers.
use Rattle.std.proofs.Common.{◌≡◌, ◌↔◌, IsTrue, Bool, sym, ◌∙◌}
use Rattle.ods_request.specs.declared.answers.Answer.{Answer}
use Rattle.ods_request.specs.Equal.{same_answer}
use Rattle.ods_request.specs.RequestTests.{answers_decide}

pub told_by : (r : Bool) (x y a b : Answer) → x ≡ a → y ≡ b → r ≡ same_answer a b → IsTrue r ↔ (x ≡ y)
told_by r x y a b one other test =
    let decides = answers_decide a b in
    (λ h. one ∙ (decides.0 (sym test ∙ h) ∙ sym other), λ e. test ∙ decides.1 (sym one ∙ (e ∙ other)))
