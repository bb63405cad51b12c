-- Why a file is not put, and which part of it exists then.
use Rattle.std.specs.Prelude.{◌≡◌, ℕ, ◌+◌, ◌-◌, ◌^◌, ◌<◌, ◌≤◌, min, List, replicate}
use Rattle.ods_base.specs.declared.file_id.FileId.{FileId}
use Rattle.ods_request.specs.declared.refusals.Refusal.{Refusal}
use Rattle.ods_request.specs.declared.refusals.Refusal.TheVariants.{VolumeFull}
use Rattle.ods_request.specs.declared.requests.Request.TheVariants.{Create, Extend, Write, SetUser}
use Rattle.ods_request.specs.Catalogue.{Plain}
use Rattle.ods_request.specs.Steps.{zero_blocks}
use Rattle.ods_filing.specs.Filed.{Filed, IsRefusedFor}
use Rattle.ods_filing.specs.Led.{Fills, IsLed}
use Rattle.ods_filing.specs.Put.{Heading, IsAdded, block_count, block_with, blocks_with, so_far}

-- A part of the file exists. Its requests up to now are accepted, and leave it with these blocks, and with zeros as its attributes.
pub record IsInPart (old : Filed) (h : Heading) (id : FileId) (blocks : List (List ℕ)) (new : Filed) : Type 0 where
  pub led : IsLed Fills old new
  pub added : IsAdded old h id (Plain (replicate 32 0) blocks) new

-- It does not gain all its blocks: its present blocks are zeros, and the Extend for the next is refused.
abbrev pub IsNotGrown : Filed → Heading → FileId → ℕ → ℕ → Filed → Refusal → Type 0
IsNotGrown old h id first count new reason =
    (have : ℕ) × (first ≤ have) × (have < count) × IsInPart old h id (zero_blocks have) new × IsRefusedFor new (Extend id (min (count - have) 65535)) reason

-- Its bytes are not all written: the blocks before block k are, and the Write of block k is refused.
abbrev pub IsNotFilled : Filed → Heading → FileId → List ℕ → Filed → Refusal → Type 0
IsNotFilled old h id bytes new reason =
    (k : ℕ) × (k < block_count bytes) × IsInPart old h id (so_far bytes (block_count bytes) k) new × IsRefusedFor new (Write id (k + 1) (block_with bytes k)) reason

-- Why a file is not put. No volume has as many blocks as its bytes take. Or the volume refuses the next of its requests, after all before it are
-- done. The first is a Create, for as many blocks as one request may have. An Extend follows for each part of the others. Then come a Write of each
-- block, and a SetUser of the attributes.
pub data IsUnput (h : Heading) (attributes bytes : List ℕ) (old new : Filed) : Refusal → Type 0 where
  too_many : 2 ^ 20 < block_count bytes → new ≡ old → IsUnput h attributes bytes old new VolumeFull
  not_made : (reason : Refusal) → IsRefusedFor old (Create h.name h.version (min (block_count bytes) 65535) h.stamp) reason → new ≡ old → IsUnput h attributes bytes old new reason
  not_grown : (reason : Refusal) (id : FileId) → IsNotGrown old h id (min (block_count bytes) 65535) (block_count bytes) new reason → IsUnput h attributes bytes old new reason
  not_filled : (reason : Refusal) (id : FileId) → IsNotFilled old h id bytes new reason → IsUnput h attributes bytes old new reason
  not_attributed : (reason : Refusal) (id : FileId) → IsInPart old h id (blocks_with bytes) new → IsRefusedFor new (SetUser id attributes) reason → IsUnput h attributes bytes old new reason
