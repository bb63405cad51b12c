-- Laws about the definitions of the catalogue.
use Rattle.std.specs.Prelude.{◌≡◌, ℕ, Bool, true, false, List, [], ◌∷◌, ◌++◌, Option, None, Some, IsTrue, is_some}
use Rattle.std.specs.Option.{option_and_then}
use Rattle.std.specs.FinMap as map
use Rattle.std.specs.FinSet as set
use Rattle.ods_base.specs.declared.file_id.Uic.{Uic}
use Rattle.ods_base.specs.declared.file_id.FileId.{FileId}
use Rattle.ods_base.specs.declared.name.Pick.{Pick}
use Rattle.ods_base.specs.declared.name.Pick.TheVariants.{Exact}
use Rattle.ods_base.specs.Name.{RadName}
use Rattle.ods_request.specs.declared.refusals.Refusal.TheVariants as refusal
use Rattle.ods_request.specs.declared.requests.Request.{Request}
use Rattle.ods_request.specs.declared.requests.Request.TheVariants.{Enter, LookUp, Remove}
use Rattle.ods_request.specs.declared.answers.Answer.{Answer}
use Rattle.ods_request.specs.declared.answers.Answer.TheVariants.{Entered, Found, Removed}
use Rattle.ods_request.specs.declared.answers.Entry.{Entry}
use Rattle.ods_request.specs.declared.rights.Right.TheVariants as right
use Rattle.ods_request.specs.Rights.{permits}
use Rattle.ods_request.specs.Catalogue.{Catalogue}
use Rattle.ods_request.specs.Faults.{fault_of}
use Rattle.ods_request.specs.Steps.{step, replay, answer_of, after, created_id, file_at}
pub use Rattle.ods_request.specs.Table.{creates, only_looks, changed_file}

-- a step never removes an ID from the past
abbrev pub PastIsKept : Type 0
PastIsKept = (C D : Catalogue) (who : Uic) (r : Request) (a : Answer) (id : FileId) →
    step C who r a ≡ Some D → set.contains C.past id ≡ true → set.contains D.past id ≡ true

-- the replay of a list with one more entry is the step of that entry on the replay of the list
abbrev pub ReplayGoesOn : Type 0
ReplayGoesOn = (C : Catalogue) (entries : List Entry) (e : Entry) →
    replay C (entries ++ e ∷ []) ≡ option_and_then (λ D. step D e.who e.request e.answer) (replay C entries)

-- a request that changes nothing leaves the catalogue unchanged
abbrev pub LookingChangesNothing : Type 0
LookingChangesNothing = (C D : Catalogue) (who : Uic) (r : Request) (a : Answer) →
    only_looks r ≡ true → step C who r a ≡ Some D → D ≡ C

-- a refused request has no step
abbrev pub RefusedHasNoStep : Type 0
RefusedHasNoStep = (C : Catalogue) (who : Uic) (r : Request) (a : Answer) →
    IsTrue (is_some (fault_of C who r)) → step C who r a ≡ None

-- every request except Create has at most one answer and one resulting catalogue
abbrev pub AnswerIsDetermined : Type 0
AnswerIsDetermined = (C D : Catalogue) (who : Uic) (r : Request) (a : Answer) →
    creates r ≡ false → step C who r a ≡ Some D → (a ≡ answer_of C r) × (D ≡ after C r)

-- A request that is not refused, and is not Create, has this step.
abbrev pub AnswerIsStep : Type 0
AnswerIsStep = (C : Catalogue) (who : Uic) (r : Request) →
    creates r ≡ false → fault_of C who r ≡ None → step C who r (answer_of C r) ≡ Some (after C r)

-- Only Create leaves a choice. If one of two steps by one user and request does not create a file, the two have equal answers and equal results.
abbrev pub AnswersAgree : Type 0
AnswersAgree = (C D E : Catalogue) (who : Uic) (r : Request) (a b : Answer) →
    step C who r a ≡ Some D → step C who r b ≡ Some E → created_id a ≡ None → (a ≡ b) × (D ≡ E)

-- a step changes no other file
abbrev pub OtherFilesStay : Type 0
OtherFilesStay = (C D : Catalogue) (who : Uic) (r : Request) (a : Answer) (id : FileId) →
    step C who r a ≡ Some D → ¬ (changed_file r a ≡ Some id) → map.get D.files id ≡ map.get C.files id

-- a new file has an ID that no file has or ever had, and the past then contains this ID
abbrev pub CreatedIsNew : Type 0
CreatedIsNew = (C D : Catalogue) (who : Uic) (r : Request) (a : Answer) (id : FileId) →
    step C who r a ≡ Some D → created_id a ≡ Some id →
    (map.get C.files id ≡ None) × (set.contains C.past id ≡ false) × (set.contains D.past id ≡ true)

-- no step changes the protection of new files
abbrev pub DefaultStays : Type 0
DefaultStays = (C D : Catalogue) (who : Uic) (r : Request) (a : Answer) → step C who r a ≡ Some D → D.default ≡ C.default

-- the user may read this file of the catalogue
abbrev pub may_read : Catalogue → Uic → FileId → Bool
may_read C who id = permits who (file_at C id).owner (file_at C id).protection right.Read

-- a user who may read the directory finds the file after an Enter, under the version of its answer
abbrev pub EnteredIsFound : Type 0
EnteredIsFound = (C D : Catalogue) (who reader : Uic) (dir : FileId) (name : RadName) (given : Option ℕ) (file : FileId) (version : ℕ) →
    step C who (Enter dir name given file) (Entered version) ≡ Some D → IsTrue (may_read D reader dir) →
    step D reader (LookUp dir name (Exact version)) (Found file version) ≡ Some D

-- a user who may read the directory does not find the name after a Remove, in the version of its answer
abbrev pub RemovedIsGone : Type 0
RemovedIsGone = (C D : Catalogue) (who reader : Uic) (dir : FileId) (name : RadName) (pick : Pick) (file : FileId) (version : ℕ) →
    step C who (Remove dir name pick) (Removed file version) ≡ Some D → IsTrue (may_read D reader dir) →
    fault_of D reader (LookUp dir name (Exact version)) ≡ Some refusal.NoSuchName
