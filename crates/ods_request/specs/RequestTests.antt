-- The tests of two requests, and of two answers, decide equality.
use Rattle.std.proofs.Common.{◌≡◌, subst, true, arith}
use Rattle.ods_request.specs.declared.requests.Request.{Request}
use Rattle.ods_request.specs.declared.answers.Answer.{Answer}
use Rattle.ods_request.specs.Equal.{same_given, same_pick, same_request, same_answer}
use Rattle.ods_request.specs.AnswerTests.{Tells, Knows, equal_by, tells_bytes, knows_bytes, tells_id, knows_id, tells_name, knows_name, tells_answer, knows_answer}

tells_given : Tells same_given
tells_given a b = grind arith

knows_given : Knows same_given
knows_given a = grind arith

tells_pick : Tells same_pick
tells_pick a b = grind arith

knows_pick : Knows same_pick
knows_pick a = grind arith

tells_request : Tells same_request
tells_request a b = grind (arith, tells_bytes, tells_id, tells_name, tells_given, tells_pick)

knows_request : Knows same_request
knows_request a = grind (arith, knows_bytes, knows_id, knows_name, knows_given, knows_pick)

-- the tests decide equality
pub requests_decide : (a b : Request) → (same_request a b ≡ true → a ≡ b) × (a ≡ b → same_request a b ≡ true)
requests_decide a b = (equal_by same_request tells_request a b, λ e. subst (λ x. same_request a x ≡ true) e (knows_request a))

pub answers_decide : (a b : Answer) → (same_answer a b ≡ true → a ≡ b) × (a ≡ b → same_answer a b ≡ true)
answers_decide a b = (equal_by same_answer tells_answer a b, λ e. subst (λ x. same_answer a x ≡ true) e (knows_answer a))
