-- The requests of truncate: the blocks after the new end are freed, and the attributes state it.
use Rattle.std.specs.Prelude.{◌≡◌, ◌≢◌, ◌⊎◌, ◌≤◌, ◌<◌, ◌*◌, ◌+◌, ◌/◌, ℕ, nat_lt, if◌then◌else◌, List, [], ◌∷◌, ◌++◌, length, Option, Some, None}
use Rattle.ods_space.specs.Layout.{VolumeLayout}
use Rattle.ods_filing.specs.Filed.{Filed}
use Rattle.ods_request.specs.declared.refusals.Refusal.TheVariants.{Reserved, VolumeFull}
use Rattle.ods_request.specs.declared.requests.Request.{Request as Asked}
use Rattle.ods_request.specs.declared.requests.Request.TheVariants.{SetUser, Truncate}
use Rattle.ods_shell.specs.declared.alone.Alone.TheVariants as alone
use Rattle.ods_shell.specs.Named.{highest}
use Rattle.ods_shell.specs.declared.facts.Facts.{Facts}
use Rattle.ods_shell.specs.declared.facts.Kind.TheVariants.{Directory}
use Rattle.ods_shell.specs.declared.found.Found.{Found}
use Rattle.ods_shell.specs.declared.path_fault.PathFault.TheVariants as fault
use Rattle.ods_upkeep.specs.Pieces.{with_end}
use Rattle.ods_upkeep.specs.Refused.{HasPath, IsNoSource, StopsAt}
use Rattle.ods_upkeep.specs.Removed.{Does}
use Rattle.ods_upkeep.specs.Sources.{AreOfPath}
use Rattle.ods_upkeep.specs.declared.failure.Failure.{Failure}
use Rattle.ods_upkeep.specs.declared.failure.Why.{Why}
use Rattle.ods_upkeep.specs.declared.failure.Why.TheVariants.{Path, Request, IsDirectory, Several, PastEnd}

-- this is known of the file, and it can be cut to this number of bytes: it is no directory, its number is above 5, and it has at least this number of
-- bytes
pub record IsCuttable (known : Option Facts) (bytes : ℕ) (facts : Facts) : Type 0 where
  pub is : known ≡ Some facts
  pub plain : facts.kind ≢ Directory
  pub above : 5 < facts.file.number
  pub within : bytes ≤ facts.bytes
  pub held : bytes ≤ 512 * facts.blocks

-- the one file that the path selects, the highest version if it specifies none, which can be cut to this number of bytes
pub record IsCut (I : List (List ℕ)) (L : VolumeLayout) (path : List ℕ) (bytes : ℕ) (facts : Facts) : Type 0 where
  pub found : Found
  pub one : AreOfPath I L (highest alone.Refused) path (found ∷ [])
  pub cuttable : IsCuttable found.facts bytes facts

-- how many blocks these bytes take
abbrev pub blocks_for : ℕ → ℕ
blocks_for bytes = (bytes + 511) / 512

-- blocks after the last byte are freed, if there are any
abbrev pub blocks_gone : Facts → ℕ → List Asked
blocks_gone facts bytes = if nat_lt (blocks_for bytes) facts.blocks then Truncate facts.file (blocks_for bytes) ∷ [] else []

-- the attributes get the new end, if it differs
abbrev pub SetsEnd : Facts → ℕ → List Asked → Type 0
SetsEnd facts bytes requests =
    ((with_end facts.attributes bytes ≡ facts.attributes) × (requests ≡ []))
    ⊎ ((with_end facts.attributes bytes ≢ facts.attributes) × (requests ≡ SetUser facts.file (with_end facts.attributes bytes) ∷ []))

-- the requests that cut this file to this number of bytes
abbrev pub AreCuts : Facts → ℕ → List Asked → Type 0
AreCuts facts bytes requests = (last : List Asked) × SetsEnd facts bytes last × (requests ≡ blocks_gone facts bytes ++ last)

-- The one file that the path selects has this number of bytes. Nothing else was done.
abbrev pub IsTruncated : List ℕ → ℕ → Filed → Filed → Type 0
IsTruncated path bytes old new =
    (facts : Facts) × ((requests : List Asked) × IsCut old.image old.layout path bytes facts × AreCuts facts bytes requests × Does old requests new)

-- why a file is not cut to this number of bytes: there is none, it is a directory, it is one of the first five, or its end or its blocks do not reach
-- this far
abbrev pub IsNoCut : Option Facts → ℕ → Why → Type 0
IsNoCut None bytes why = why ≡ Path fault.NoSuchFile
IsNoCut (Some facts) bytes why =
    ((why ≡ IsDirectory) × (facts.kind ≡ Directory))
    ⊎ (((why ≡ Request Reserved) × (facts.file.number ≤ 5)) ⊎ ((why ≡ PastEnd) × ((facts.bytes < bytes) ⊎ (512 * facts.blocks < bytes))))

-- why the file of a path is not cut: the path selects nothing, or more than one, or one that cannot be cut
abbrev pub IsNotCut : List (List ℕ) → VolumeLayout → List ℕ → ℕ → Why → Type 0
IsNotCut I L path bytes why =
    IsNoSource I L (highest alone.Refused) path why
    ⊎ ((found : List Found) × AreOfPath I L (highest alone.Refused) path found
    × (((why ≡ Several) × (length found ≢ 1)) ⊎ ((one : Found) × (found ≡ one ∷ []) × IsNoCut one.facts bytes why)))

-- why cutting a file stops: no attributes can state this number of bytes, and nothing was done; or a request is not done
abbrev pub StopsCutting : Facts → ℕ → Filed → Filed → Why → Type 0
StopsCutting facts bytes old new why =
    ((new ≡ old) × (why ≡ Request VolumeFull) × (536870912 ≤ bytes)) ⊎ ((requests : List Asked) × AreCuts facts bytes requests × StopsAt old requests new why)

-- Why the file that a path selects is not cut to this number of bytes, and what was done before.
abbrev pub IsNotTruncated : List ℕ → ℕ → Filed → Filed → Failure → Type 0
IsNotTruncated path bytes old new failure =
    HasPath failure path
    × (((new ≡ old) × IsNotCut old.image old.layout path bytes failure.why)
    ⊎ ((facts : Facts) × IsCut old.image old.layout path bytes facts × StopsCutting facts bytes old new failure.why))
