-- The arms of a match on a request.
use Rattle.std.proofs.Common.{◌≡◌, ◌≢◌, ℕ, refl, sym, subst, false, List, Option}
use Rattle.ods_base.specs.Name.{RadName}
use Rattle.ods_base.specs.declared.file_id.FileId.{FileId}
use Rattle.ods_base.specs.declared.file_id.Uic.{Uic}
use Rattle.ods_base.specs.declared.name.Pick.{Pick}
use Rattle.ods_request.specs.declared.answers.Answer.{Answer}
use Rattle.ods_request.specs.declared.refusals.Refusal.{Refusal}
use Rattle.ods_request.specs.declared.requests.Query.{Query}
use Rattle.ods_request.specs.declared.requests.Query.TheVariants as query
use Rattle.ods_request.specs.declared.requests.Request.{Request}
use Rattle.ods_request.specs.declared.requests.Request.TheVariants.{Create, Extend, Truncate, Delete, Enter, LookUp, Remove, Read, Write, List as Lines, Stat, SetUser}
use Rattle.ods_request.specs.Queries.{request_of}
use Rattle.ods_request.specs.Table.{only_looks}
use Rattle.ods_space.specs.Layout.{VolumeLayout}
use Rattle.ods_state.specs.Served.{IsRefusalOf, IsStepOf}

-- each request that is no query and no List changes something
pub others_change : (r : Request) → ((q : Query) → request_of q ≢ r) → ((dir : FileId) → r ≢ Lines dir) → only_looks r ≡ false
others_change (LookUp dir name pick) queries lists = absurd (queries (query.LookUp dir name pick) refl)
others_change (Read file vbn) queries lists = absurd (queries (query.Read file vbn) refl)
others_change (Stat file) queries lists = absurd (queries (query.Stat file) refl)
others_change (Lines dir) queries lists = absurd (lists dir refl)
others_change (Create name version blocks stamp) queries lists = refl
others_change (Extend file blocks) queries lists = refl
others_change (Truncate file blocks) queries lists = refl
others_change (Delete file) queries lists = refl
others_change (Enter dir name version file) queries lists = refl
others_change (Remove dir name pick) queries lists = refl
others_change (Write file vbn block) queries lists = refl
others_change (SetUser file attributes) queries lists = refl

-- each request that does not only look has an arm
pub no_other : (r : Request) → only_looks r ≡ false
    → ((name : RadName) (version blocks : ℕ) (stamp : List ℕ) → r ≢ Create name version blocks stamp) → ((file : FileId) (blocks : ℕ) → r ≢ Extend file blocks)
    → ((file : FileId) (blocks : ℕ) → r ≢ Truncate file blocks)
    → ((file : FileId) → r ≢ Delete file) → ((dir : FileId) (name : RadName) (version : Option ℕ) (file : FileId) → r ≢ Enter dir name version file)
    → ((file : FileId) (vbn : ℕ) (block : List ℕ) → r ≢ Write file vbn block)
    → ((file : FileId) (attributes : List ℕ) → r ≢ SetUser file attributes) → ((dir : FileId) (name : RadName) (pick : Pick) → r ≢ Remove dir name pick) → ⊥
no_other (LookUp dir name pick) changes creates extends truncates deletes enters writes sets removes = absurd (cc)
no_other (Read file vbn) changes creates extends truncates deletes enters writes sets removes = absurd (cc)
no_other (Stat file) changes creates extends truncates deletes enters writes sets removes = absurd (cc)
no_other (Lines dir) changes creates extends truncates deletes enters writes sets removes = absurd (cc)
no_other (Create name version blocks stamp) changes creates extends truncates deletes enters writes sets removes = creates name version blocks stamp refl
no_other (Extend file blocks) changes creates extends truncates deletes enters writes sets removes = extends file blocks refl
no_other (Truncate file blocks) changes creates extends truncates deletes enters writes sets removes = truncates file blocks refl
no_other (Delete file) changes creates extends truncates deletes enters writes sets removes = deletes file refl
no_other (Enter dir name version file) changes creates extends truncates deletes enters writes sets removes = enters dir name version file refl
no_other (Write file vbn block) changes creates extends truncates deletes enters writes sets removes = writes file vbn block refl
no_other (SetUser file attributes) changes creates extends truncates deletes enters writes sets removes = sets file attributes refl
no_other (Remove dir name pick) changes creates extends truncates deletes enters writes sets removes = removes dir name pick refl

-- what an arm finds of its request is found of the request that was given
pub step_as : {I : List (List ℕ)} {L : VolumeLayout} {who : Uic} {given its : Request} {a : Answer} {J : List (List ℕ)} {M : VolumeLayout}
    → given ≡ its → IsStepOf I L who its a J M → IsStepOf I L who given a J M
step_as {I} {L} {who} {given} {its} {a} {J} {M} is made = subst (λ r. IsStepOf I L who r a J M) (sym is) made

pub refused_as : {I : List (List ℕ)} {L : VolumeLayout} (who : Uic) {given its : Request} (f : Refusal)
    → given ≡ its → IsRefusalOf I L who its f → IsRefusalOf I L who given f
refused_as {I} {L} who f is refused = subst (λ r. IsRefusalOf I L who r f) (sym is) refused
