-- How put makes room for a file if files are replaced: the entry with the name is removed, and its file is deleted if no other entry names it. The new
-- file keeps what a Stat shows of that file.
use Rattle.std.specs.Prelude.{◌≡◌, ◌⊎◌, ◌==◌, ℕ, Bool, true, false, if◌then◌else◌, List, [], ◌∷◌, slice_index, Option, Some, None, is_some}
use Rattle.ods_base.specs.Name.{RadName}
use Rattle.ods_base.specs.declared.file_id.FileId.{FileId}
use Rattle.ods_base.specs.declared.name.Pick.{Pick}
use Rattle.ods_base.specs.declared.name.Pick.TheVariants.{Exact, Highest}
use Rattle.ods_request.specs.declared.answers.Answer.TheVariants.{Info}
use Rattle.ods_request.specs.declared.answers.Kind.TheVariants.{Directory, Plain, System}
use Rattle.ods_request.specs.declared.answers.Stat.{Stat as Shown}
use Rattle.ods_request.specs.declared.refusals.Refusal.{Refusal}
use Rattle.ods_request.specs.declared.refusals.Refusal.TheVariants.{NoSuchFile, Reserved}
use Rattle.ods_request.specs.declared.requests.Request.{Request as Asked}
use Rattle.ods_request.specs.declared.requests.Request.TheVariants.{Delete, Remove, Stat}
use Rattle.ods_filing.specs.Filed.{Filed, IsDone, IsRefusedFor}
use Rattle.ods_upkeep.specs.Counted.{one_less}
use Rattle.ods_upkeep.specs.Looked.{IsSeen, IsUnseen}
use Rattle.ods_upkeep.specs.Removed.{Does}
use Rattle.ods_upkeep.specs.declared.failure.Why.{Why}
use Rattle.ods_upkeep.specs.declared.failure.Why.TheVariants.{IsDirectory, Request}

-- the version that is looked up: the given one, or the highest
abbrev pub pick_for : Option ℕ → Pick
pick_for None = Highest
pick_for (Some said) = Exact said

-- A Stat states that there is a file with this ID, that this is known of it, and that it is plain; or that there is none.
abbrev pub IsThere : Filed → FileId → Option Shown → Filed → Type 0
IsThere old file (Some shown) new = IsDone old (Stat file) (Info shown) new × ((blocks : ℕ) × ((attributes : List ℕ) × (shown.kind ≡ Plain blocks attributes)))
IsThere old file None new = IsRefusedFor old (Stat file) NoSuchFile × (new ≡ old)

-- Why a file is not replaced: a Stat states that it is a directory, or a file of the system; or the Stat is refused.
abbrev pub IsNotPlain : Filed → FileId → Filed → Why → Type 0
IsNotPlain old file new why =
    ((shown : Shown) × IsDone old (Stat file) (Info shown) new
    × (((count : ℕ) × (shown.kind ≡ Directory count) × (why ≡ IsDirectory)) ⊎ ((shown.kind ≡ System) × (why ≡ Request Reserved))))
    ⊎ ((reason : Refusal) × (why ≡ Request reason) × IsRefusedFor old (Stat file) reason × (new ≡ old))

-- how many entries name each file, after an entry is removed whose file exists or not
abbrev pub counts_left : Bool → (ℕ → ℕ) → FileId → ℕ → ℕ
counts_left true counts file = one_less counts file.number
counts_left false counts file = counts

-- the file is deleted if it exists and no entry names it any more
abbrev pub file_left : Bool → (ℕ → ℕ) → FileId → List Asked
file_left true counts file = if counts file.number == 0 then Delete file ∷ [] else []
file_left false counts file = []

-- This entry of the directory is removed, and its file, of which this is known if it exists, is deleted if no other entry names it. Entries name each
-- file this often before, and this often then.
pub record IsReplaced (dir : FileId) (name : RadName) (version : ℕ) (file : FileId) (held : Option Shown) (before after : List ℕ) (old new : Filed) : Type 0 where
  pub known : Filed
  pub shown : IsThere old file held known
  pub counted : slice_index after ≡ counts_left (is_some held) (slice_index before) file
  pub gone : Does known (Remove dir name (Exact version) ∷ file_left (is_some held) (counts_left (is_some held) (slice_index before) file) file) new

-- An entry of this name, of the given version or else the highest, is found and removed; its version is free then. This is known of its file, if it
-- exists.
pub record IsFreed (dir : FileId) (name : RadName) (said : Option ℕ) (version : ℕ) (held : Option Shown) (before after : List ℕ) (old new : Filed) : Type 0 where
  pub file : FileId
  pub seen : Filed
  pub found : IsSeen old dir name (pick_for said) file version seen
  pub replaced : IsReplaced dir name version file held before after seen new

-- Room is made for a name if files are replaced, and entries counted for that: an entry that the user finds is removed, with its version and what is
-- known of its file. Otherwise nothing was done.
abbrev pub IsRoomMade : FileId → RadName → Option ℕ → Option ℕ → Option Shown → Option (List ℕ) → Option (List ℕ) → Filed → Filed → Type 0
IsRoomMade dir name said free held None after old new = (free ≡ None) × (held ≡ None) × (after ≡ None) × (new ≡ old)
IsRoomMade dir name said free held (Some before) after old new =
    (IsUnseen old dir name (pick_for said) new × (free ≡ None) × (held ≡ None) × (after ≡ Some before))
    ⊎ ((version : ℕ) × ((left : List ℕ) × (free ≡ Some version) × (after ≡ Some left) × IsFreed dir name said version held before left old new))
