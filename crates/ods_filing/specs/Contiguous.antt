-- A file that is put as one run: its blocks are consecutive on the disk, and its header marks it as contiguous.
use Rattle.std.specs.Prelude.{◌≡◌, ℕ, ◌+◌, ◌<◌, ◌⊎◌, ◌==◌, Bool, false, List, None, Some, if◌then◌else◌, replicate}
use Rattle.std.specs.List.{range_with_len}
use Rattle.std.specs.FinMap as finmap
use Rattle.ods_base.specs.declared.file_id.FileId.{FileId}
use Rattle.ods_base.specs.declared.file_id.Uic.{Uic}
use Rattle.ods_space.specs.Chain.{header_blocks}
use Rattle.ods_space.specs.Files.{HasBlocks}
use Rattle.ods_request.specs.declared.refusals.Refusal.{Refusal}
use Rattle.ods_request.specs.declared.refusals.Refusal.TheVariants as refusal
use Rattle.ods_request.specs.declared.requests.Request.TheVariants.{Create, SetUser, Write}
use Rattle.ods_request.specs.Catalogue.{Catalogue, File, Body, Plain}
use Rattle.ods_request.specs.Steps.{created}
use Rattle.ods_state.specs.Contents.{ShowsBy}
use Rattle.ods_amend.specs.Access.{GivesAll}
use Rattle.ods_amend.specs.Bits.{MarksAs}
use Rattle.ods_amend.specs.Runs.{HasNoRun, IsLowestRun, free_below}
use Rattle.ods_filing.specs.Amended.{IsWhyNotGiven}
use Rattle.ods_filing.specs.Filed.{Filed, IsRefusedFor, disk_at}
use Rattle.ods_filing.specs.Put.{Heading, IsAdded, block_count, block_with, blocks_with, file_with, so_far}

-- the storage bitmap marks these blocks as free, or in use, with no other change
pub record HasMarked (old : Filed) (blocks : List ℕ) (free : Bool) (new : Filed) : Type 0 where
  pub marked : MarksAs (disk_at old) blocks free (disk_at new)
  pub user : new.user ≡ old.user

-- the user has set these characteristics of the file, with no other change
pub record HasCharacterised (old : Filed) (id : FileId) (flags : ℕ) (new : Filed) : Type 0 where
  pub given : GivesAll (disk_at old) old.user id None None (Some flags) (disk_at new)
  pub user : new.user ≡ old.user

-- UC.CON, bit 7 of H.UCHA, is set in the header of a file in one run, if it has any block
abbrev pub contiguous_char : ℕ → ℕ
contiguous_char count = if count == 0 then 0 else 128

-- a new file of this user with `count` blocks, which is contiguous if it has any
abbrev pub contiguous_with : Uic → ℕ → Heading → ℕ → Body → File
contiguous_with who protection h count body = record (file_with who protection h body) { user_char = contiguous_char count }

-- File n has the lowest run of `count` blocks that were free before, in order.
pub record HasRun (old : Filed) (n count : ℕ) (new : Filed) : Type 0 where
  pub first : ℕ
  pub run : IsLowestRun old.image old.layout count first
  pub blocks : HasBlocks new.image new.layout n (range_with_len first count)

-- One more file, in one run: the blocks show each former catalogue with this file added, under an ID that no file had.
pub record IsAddedInOnePiece (old : Filed) (h : Heading) (id : FileId) (count : ℕ) (body : Body) (new : Filed) : Type 0 where
  pub free : (C : Catalogue) → ShowsBy old.image old.layout C → finmap.get C.files id ≡ None
  pub shown : (C : Catalogue) → ShowsBy old.image old.layout C → ShowsBy new.image new.layout (created C id (contiguous_with old.user C.default h count body))
  pub user : new.user ≡ old.user
  pub place : HasRun old id.number count new

-- each file keeps its blocks
abbrev pub KeepsBlocks : Filed → Filed → Type 0
KeepsBlocks old new = (n : ℕ) (blocks : List ℕ) → HasBlocks old.image old.layout n blocks → HasBlocks new.image new.layout n blocks

-- Its bytes are not all written: the blocks before block k are, and the Write of block k is refused.
abbrev pub IsWrittenShort : Filed → Heading → FileId → List ℕ → Filed → Refusal → Type 0
IsWrittenShort old h id bytes new reason =
    (k : ℕ) × (k < block_count bytes) × IsAdded old h id (Plain (replicate 32 0) (so_far bytes (block_count bytes) k)) new × IsRefusedFor new (Write id (k + 1) (block_with bytes k)) reason

-- Why a file of `count` blocks is not made in the run from this LBN: out of memory, or the volume refuses the Create, while its free blocks below the
-- run count as in use.
abbrev pub IsUnmadeInRun : Heading → ℕ → ℕ → Filed → Filed → Refusal → Type 0
IsUnmadeInRun h count first old new reason = (reason ≡ refusal.NoMemory)
    ⊎ (HasMarked old (free_below old.image old.layout first) false new × IsRefusedFor new (Create h.name h.version count h.stamp) reason)

-- Why a file is not put in one run. One header cannot map so many blocks. Or no run of free blocks is long enough. Or the volume refuses the Create,
-- while its free blocks below the run count as in use. Or it then refuses a Write, the SetUser of the attributes, or the contiguous mark. Or it is
-- out of memory.
pub data IsNotInOnePiece (h : Heading) (attributes bytes : List ℕ) (old new : Filed) : Refusal → Type 0 where
  no_header : header_blocks < block_count bytes → new ≡ old → IsNotInOnePiece h attributes bytes old new refusal.ChainFull
  no_run : HasNoRun old.image old.layout (block_count bytes) → new ≡ old → IsNotInOnePiece h attributes bytes old new refusal.VolumeFull
  not_made : (reason : Refusal) (first : ℕ) → IsLowestRun old.image old.layout (block_count bytes) first → HasMarked old (free_below old.image old.layout first) false new
      → IsRefusedFor new (Create h.name h.version (block_count bytes) h.stamp) reason → IsNotInOnePiece h attributes bytes old new reason
  not_filled : (reason : Refusal) (id : FileId) → IsWrittenShort old h id bytes new reason → IsNotInOnePiece h attributes bytes old new reason
  not_attributed : (reason : Refusal) (id : FileId) → IsAdded old h id (Plain (replicate 32 0) (blocks_with bytes)) new → IsRefusedFor new (SetUser id attributes) reason → IsNotInOnePiece h attributes bytes old new reason
  not_said : (reason : Refusal) (id : FileId) → IsAdded old h id (Plain attributes (blocks_with bytes)) new → IsWhyNotGiven new id reason → IsNotInOnePiece h attributes bytes old new reason
  no_memory : IsNotInOnePiece h attributes bytes old new refusal.NoMemory
