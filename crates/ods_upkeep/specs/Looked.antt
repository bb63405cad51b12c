-- The result of a user's lookup of a name in a directory, and the next version.
use Rattle.std.specs.Prelude.{◌≡◌, ◌⊎◌, ◌+◌, ℕ, min, Option, Some, None}
use Rattle.ods_base.specs.Name.{RadName}
use Rattle.ods_base.specs.declared.file_id.FileId.{FileId}
use Rattle.ods_base.specs.declared.name.Pick.{Pick}
use Rattle.ods_base.specs.declared.name.Pick.TheVariants.{Highest}
use Rattle.ods_request.specs.declared.answers.Answer.TheVariants.{Found}
use Rattle.ods_request.specs.declared.refusals.Refusal.{Refusal}
use Rattle.ods_request.specs.declared.requests.Request.TheVariants.{LookUp}
use Rattle.ods_filing.specs.Filed.{Filed, IsDone, IsRefusedFor}

-- the lookup is accepted: this file and this version have the name
abbrev pub IsSeen : Filed → FileId → RadName → Pick → FileId → ℕ → Filed → Type 0
IsSeen old dir name pick file version new = IsDone old (LookUp dir name pick) (Found file version) new

-- the lookup is refused, for a reason, and the volume is unchanged
abbrev pub IsUnseen : Filed → FileId → RadName → Pick → Filed → Type 0
IsUnseen old dir name pick new = (reason : Refusal) × IsRefusedFor old (LookUp dir name pick) reason × (new ≡ old)

-- The version under which a name is entered next: the given one; otherwise one after the highest that the user finds, up to the greatest word; and 1
-- if the user finds none.
abbrev pub IsNextVersion : Filed → FileId → RadName → Option ℕ → ℕ → Filed → Type 0
IsNextVersion old dir name (Some said) next new = (next ≡ said) × (new ≡ old)
IsNextVersion old dir name None next new =
    ((file : FileId) × ((version : ℕ) × IsSeen old dir name Highest file version new × (next ≡ min (version + 1) 65535)))
    ⊎ (IsUnseen old dir name Highest new × (next ≡ 1))
