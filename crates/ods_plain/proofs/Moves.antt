-- A step by its request: what is known of the request as it was matched carries over to the request itself.
use Rattle.std.proofs.Common.{◌≡◌, ℕ, true, false, List, Some, None, sym, ap, ◌∙◌}
use Rattle.ods_base.specs.declared.file_id.Uic.{Uic}
use Rattle.ods_base.specs.declared.file_id.FileId.{FileId}
use Rattle.ods_base.specs.Name.{RadName}
use Rattle.ods_request.specs.declared.requests.Request.{Request}
use Rattle.ods_request.specs.declared.requests.Request.TheVariants.{Create}
use Rattle.ods_request.specs.declared.answers.Answer.{Answer}
use Rattle.ods_request.specs.declared.answers.Answer.TheVariants.{Created}
use Rattle.ods_request.specs.Catalogue.{Catalogue}
use Rattle.ods_request.specs.Faults.{fault_of}
use Rattle.ods_request.specs.Laws.{creates}
use Rattle.ods_request.specs.Steps.{step, after, answer_of, created, new_file, is_new}
use Rattle.ods_request.proofs.StepLaws.{is_step, is_create}

pub moves : (C D : Catalogue) (who : Uic) (request r : Request) (a : Answer) → request ≡ r → fault_of C who request ≡ None → creates r ≡ false → a ≡ answer_of C r → D ≡ after C r → step C who request a ≡ Some D
moves C D who request r a is none other answered left =
    ap (λ q. step C who q a) is ∙ is_step C D who r a other (sym (ap (fault_of C who) is) ∙ none) answered left

-- a request that only looks leaves the catalogue
pub looks : (C : Catalogue) (who : Uic) (request r : Request) (a : Answer) → request ≡ r → fault_of C who request ≡ None → creates r ≡ false → a ≡ answer_of C r → after C r ≡ C → step C who request a ≡ Some C
looks C who request r a is none other answered stays = moves C C who request r a is none other answered (sym stays)

pub makes : (C D : Catalogue) (who : Uic) (request : Request) (name : RadName) (version blocks : ℕ) (stamp : List ℕ) (id : FileId) → request ≡ Create name version blocks stamp → fault_of C who request ≡ None
    → is_new C id ≡ true → D ≡ created C id (new_file C who name version blocks stamp) → step C who request (Created id) ≡ Some D
makes C D who request name version blocks stamp id is none new left =
    ap (λ q. step C who q (Created id)) is ∙ is_create C who name version blocks stamp id (sym (ap (fault_of C who) is) ∙ none) new ∙ ap Some (sym left)
