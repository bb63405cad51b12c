-- Why the laws of the catalogue hold.
use Rattle.std.proofs.Common.{◌≡◌, ℕ, refl, sym, ap, ◌∙◌, Bool, true, false, cond, List, [], ◌∷◌, Option, Some, None, IsTrue, is_some, arith}
use Rattle.std.specs.Option.{option_and_then}
use Rattle.ods_base.specs.declared.file_id.Uic.{Uic}
use Rattle.ods_base.specs.declared.file_id.FileId.{FileId}
use Rattle.ods_base.specs.Name.{RadName}
use Rattle.ods_request.specs.declared.requests.Request.{Request}
use Rattle.ods_request.specs.declared.requests.Request.TheVariants.{Create}
use Rattle.ods_request.specs.declared.answers.Answer.{Answer}
use Rattle.ods_request.specs.declared.answers.Answer.TheVariants.{Created}
use Rattle.ods_request.specs.Catalogue.{Catalogue}
use Rattle.ods_request.specs.Faults.{fault_of}
use Rattle.ods_request.specs.Equal.{same_answer}
use Rattle.ods_request.specs.Steps.{step, change, replay, after, answer_of, create, created, created_id, new_file, is_new}
use Rattle.ods_request.specs.Laws.{creates, only_looks, AnswerIsDetermined, AnswerIsStep, AnswersAgree, ReplayGoesOn, LookingChangesNothing, RefusedHasNoStep}
use Rattle.ods_request.specs.AnswerTests.{equal_by, tells_answer, knows_answer}

pub chosen : {A : Type 0} (b : Bool) (x y : A) → IsTrue b → cond b x y ≡ x
chosen true x y h = refl
chosen false x y h = absurd (cc)

pub refused : RefusedHasNoStep
unfolding step
refused C who r a h = chosen (is_some (fault_of C who r)) None (change C who r a) h

-- what a choice gives is its first value, if there is one
pub given : {A : Type 0} (b : Bool) (x y : A) → cond b (Some x) None ≡ Some y → y ≡ x
given true x y e = cc
given false x y e = absurd (cc)

pub not_refused : {A : Type 0} (b : Bool) (x : Option A) (y : A) → cond b None x ≡ Some y → x ≡ Some y
not_refused true x y e = absurd (cc)
not_refused false x y e = e

-- where there is a step, it is the change
pub changed : (C D : Catalogue) (who : Uic) (r : Request) (a : Answer) → step C who r a ≡ Some D → change C who r a ≡ Some D
unfolding step
changed C D who r a e = not_refused (is_some (fault_of C who r)) (change C who r a) D e

-- where no file is created, the change is one choice: the request's own answer, and what it leaves
chosen_change : (C : Catalogue) (who : Uic) (r : Request) (a : Answer) → creates r ≡ false → change C who r a ≡ cond (same_answer a (answer_of C r)) (Some (after C r)) None
unfolding change
chosen_change C who r a h = grind arith

-- of all requests but Create the past is the one before
pub past_after : (C : Catalogue) (r : Request) → (after C r).past ≡ C.past
unfolding after
past_after C r = grind arith

-- a request that only looks leaves all as it is, and creates no file
after_look : (C : Catalogue) (r : Request) → only_looks r ≡ true → after C r ≡ C
unfolding after
after_look C r h = grind arith

no_create : (r : Request) → only_looks r ≡ true → creates r ≡ false
no_create r h = grind arith

-- an option's value handed on twice
handed_on : {A B C : Type 0} (o : Option A) (f : A → Option B) (g : B → Option C) → option_and_then (λ x. option_and_then g (f x)) o ≡ option_and_then g (option_and_then f o)
handed_on None f g = refl
handed_on (Some x) f g = refl

last_step : (o : Option Catalogue) → option_and_then (λ D. Some D) o ≡ o
last_step None = refl
last_step (Some D) = refl

pub goes_on : ReplayGoesOn
goes_on C [] e = last_step (step C e.who e.request e.answer)
goes_on C (f ∷ entries) e =
    ap (λ g. option_and_then g (step C f.who f.request f.answer)) (λ i D. goes_on D entries e i)
    ∙ handed_on (step C f.who f.request f.answer) (λ D. replay D entries) (λ D. step D e.who e.request e.answer)

-- a choice that gives something was made
pub taken : {A : Type 0} (b : Bool) (x y : A) → cond b (Some x) None ≡ Some y → b ≡ true
taken true x y e = refl
taken false x y e = absurd (cc)

pub determined : AnswerIsDetermined
determined C D who r a h e =
    let choice : cond (same_answer a (answer_of C r)) (Some (after C r)) None ≡ Some D = sym (chosen_change C who r a h) ∙ changed C D who r a e in
    (equal_by same_answer tells_answer a (answer_of C r) (taken (same_answer a (answer_of C r)) (after C r) D choice), given (same_answer a (answer_of C r)) (after C r) D choice)

pub looked : LookingChangesNothing
looked C D who r a h e = (determined C D who r a (no_create r h) e).1 ∙ after_look C r h

own_answer : (C : Catalogue) (r : Request) → cond (same_answer (answer_of C r) (answer_of C r)) (Some (after C r)) None ≡ Some (after C r)
own_answer C r = chosen (same_answer (answer_of C r) (answer_of C r)) (Some (after C r)) None (knows_answer (answer_of C r))

pub stepped : AnswerIsStep
unfolding step
stepped C who r h e = ap (λ o. cond (is_some o) None (change C who r (answer_of C r))) e ∙ chosen_change C who r (answer_of C r) h ∙ own_answer C r

-- no file is made by an answer that names none
made : (C : Catalogue) (who : Uic) (r : Request) (a : Answer) → creates r ≡ true → created_id a ≡ None → change C who r a ≡ None
unfolding change
made C who r a h none = grind arith

-- a step that makes no file is no Create
not_create : (C D : Catalogue) (who : Uic) (r : Request) (a : Answer) → step C who r a ≡ Some D → created_id a ≡ None → creates r ≡ false
not_create C D who r a e none = by (creates r) refl
  where
    by : (b : Bool) → creates r ≡ b → b ≡ false
    by false h = refl
    by true h = absurd (let g : None ≡ Some D = sym (made C who r a h none) ∙ changed C D who r a e in cc)

pub agree : AnswersAgree
agree C D E who r a b e f h =
    let other : creates r ≡ false = not_create C D who r a e h in
    let first = determined C D who r a other e in
    let second = determined C E who r b other f in
    (first.0 ∙ sym second.0, first.1 ∙ sym second.1)

-- a request that is not refused, with its answer and what it leaves, is a step
pub is_step : (C D : Catalogue) (who : Uic) (r : Request) (a : Answer) → creates r ≡ false → fault_of C who r ≡ None → a ≡ answer_of C r → D ≡ after C r → step C who r a ≡ Some D
is_step C D who r a h e answered left = ap (step C who r) answered ∙ stepped C who r h e ∙ ap Some (sym left)

-- and so is a Create that is not refused, with an ID that may be given
pub is_create : (C : Catalogue) (who : Uic) (name : RadName) (version blocks : ℕ) (stamp : List ℕ) (id : FileId) → fault_of C who (Create name version blocks stamp) ≡ None → is_new C id ≡ true
    → step C who (Create name version blocks stamp) (Created id) ≡ Some (created C id (new_file C who name version blocks stamp))
unfolding step change
is_create C who name version blocks stamp id e new =
    ap (λ o. cond (is_some o) None (create C (new_file C who name version blocks stamp) (Some id))) e
    ∙ chosen (is_new C id) (Some (created C id (new_file C who name version blocks stamp))) None new
