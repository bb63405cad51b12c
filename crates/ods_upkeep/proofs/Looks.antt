-- A look-up that is accepted is answered by the file and the version that stand under the name.
use Rattle.std.proofs.Common.{◌≡◌, ℕ, refl, true, false}
use Rattle.ods_base.specs.Name.{RadName}
use Rattle.ods_base.specs.declared.file_id.FileId.{FileId}
use Rattle.ods_base.specs.declared.name.Pick.{Pick}
use Rattle.ods_mount.specs.Sound.{IsSoundBy}
use Rattle.ods_request.specs.declared.answers.Answer.{Answer}
use Rattle.ods_request.specs.declared.answers.Answer.TheVariants.{Found}
use Rattle.ods_request.specs.declared.requests.Request.TheVariants.{LookUp}
use Rattle.ods_request.specs.Catalogue.{Catalogue}
use Rattle.ods_request.specs.Steps.{answer_of, found_file, found_version}
use Rattle.ods_request.proofs.StepLaws.{determined}
use Rattle.ods_state.proofs.Exists.{the_catalogue, is_shown}
use Rattle.ods_filing.specs.Filed.{Filed, IsDone}

pub is_found : (old new : Filed) → IsSoundBy old.image old.layout → (dir : FileId) (name : RadName) (pick : Pick) (a : Answer) → IsDone old (LookUp dir name pick) a new
    → (file : FileId) × ((version : ℕ) × (a ≡ Found file version))
unfolding answer_of
is_found old new sound dir name pick a done =
    let first : Catalogue = the_catalogue old.image old.layout sound in
    let made = done.steps first (is_shown old.image old.layout sound) (λ id makes named. let wrong : false ≡ true = makes in absurd (cc)) in
    let is : a ≡ answer_of first (LookUp dir name pick) = (determined first made.0 old.user (LookUp dir name pick) a refl made.1).0 in
    (found_file first dir name pick, (found_version first dir name pick, is))
