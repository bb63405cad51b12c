-- How a host file is put: with which attributes, why it is not, and for which owner.
use Rattle.std.specs.Prelude.{◌≡◌, ◌≢◌, ◌⊎◌, ℕ, ◌<◌, ◌≤◌, ◌↔◌, Bool, false, if◌then◌else◌, nat_le, List, ◌++◌, take, drop, Option, Some, None, unwrap_or}
use Rattle.ods_base.specs.declared.file_id.FileId.{FileId}
use Rattle.ods_base.specs.declared.file_id.Uic.{Uic}
use Rattle.ods_request.specs.declared.answers.Stat.{Stat as Shown}
use Rattle.ods_request.specs.declared.requests.Request.TheVariants.{Enter}
use Rattle.ods_request.specs.Catalogue.{Plain}
use Rattle.ods_request.specs.declared.refusals.Refusal.{Refusal}
use Rattle.ods_filing.specs.Contiguous.{IsAddedInOnePiece, IsNotInOnePiece}
use Rattle.ods_filing.specs.Filed.{Filed, for_another}
use Rattle.ods_filing.specs.Led.{IsLed, IsObeyed, Fills}
use Rattle.ods_filing.specs.Put.{Heading, IsAdded, block_count, blocks_with}
use Rattle.ods_filing.specs.Unput.{IsUnput}
use Rattle.ods_records.specs.Attributes.{kind_in}
use Rattle.ods_records.specs.Faults.{IsFirstFault}
use Rattle.ods_records.specs.Lines.{longest_of}
use Rattle.ods_records.specs.Records.{Spells, word_at}
use Rattle.ods_records.specs.declared.kind.RecordKind.{RecordKind}
use Rattle.ods_shell.specs.declared.status.Status.{Status}
use Rattle.ods_shell.specs.declared.status.Status.TheVariants.{Words, Refused}
use Rattle.ods_shell.specs.Space.{HasFreeRun}
use Rattle.ods_space.specs.Chain.{header_blocks}
use Rattle.ods_space.specs.Layout.{VolumeLayout}
use Rattle.ods_upkeep.specs.Kinds.{Puts}
use Rattle.ods_upkeep.specs.Replaced.{KeepsAccess, placing_kept}
use Rattle.ods_upkeep.specs.declared.asked.Placing.{Placing}
use Rattle.ods_upkeep.specs.declared.asked.Placing.TheVariants.{Anywhere, InOnePiece}
use Rattle.ods_upkeep.specs.declared.failure.Why.{Why}
use Rattle.ods_upkeep.specs.declared.failure.Why.TheVariants.{Put, Request}
use Rattle.ods_upkeep.specs.declared.put_fault.PutFault.{PutFault}
use Rattle.ods_upkeep.specs.declared.put_fault.PutFault.TheVariants.{NoRecords, LongRecord, Untyped, NoRun, NoEnd, OtherKind, PastBlocks}

-- the exit status: a name that is not valid is wrong words, and bytes that do not fit are refused
abbrev pub HasPutStatus : PutFault → Status → Type 0
HasPutStatus (NoRecords fault) s = s ≡ Refused
HasPutStatus (LongRecord longest size) s = s ≡ Refused
HasPutStatus (Untyped character) s = s ≡ Words
HasPutStatus (NoRun longest blocks) s = s ≡ Refused
HasPutStatus NoEnd s = s ≡ Refused
HasPutStatus (OtherKind kind) s = s ≡ Refused
HasPutStatus PastBlocks s = s ≡ Refused

-- The bytes fit attributes: if the attributes describe records with a length, the bytes are such records, and none is longer than F.RSIZ unless that
-- is 0.
abbrev pub FitsForm : List ℕ → List ℕ → Type 0
FitsForm own bytes = (kind : RecordKind) → kind_in own ≡ Some kind → (records : List (List ℕ)) × Spells kind bytes records × ((word_at own 2 ≡ 0) ⊎ (longest_of records ≤ word_at own 2))

-- why they do not fit
abbrev pub IsUnfit : List ℕ → List ℕ → PutFault → Type 0
IsUnfit own bytes (NoRecords fault) = (kind : RecordKind) × (kind_in own ≡ Some kind) × IsFirstFault kind bytes fault
IsUnfit own bytes (LongRecord longest size) = (kind : RecordKind) × (kind_in own ≡ Some kind) × ((records : List (List ℕ)) × Spells kind bytes records
    × (longest ≡ longest_of records) × (size ≡ word_at own 2) × (size < longest) × (size ≢ 0))
IsUnfit own bytes (Untyped character) = ⊥
IsUnfit own bytes (NoRun longest blocks) = ⊥
IsUnfit own bytes NoEnd = ⊥
IsUnfit own bytes (OtherKind kind) = ⊥
IsUnfit own bytes PastBlocks = ⊥

-- the attributes with the record type and the record attributes of others, and the greater record size of both
abbrev pub like_greater : List ℕ → List ℕ → List ℕ
like_greater attributes others = if nat_le (word_at attributes 2) (word_at others 2) then take 4 others ++ drop 4 attributes else take 2 others ++ drop 2 attributes

-- A new file of the user exists, with this heading, these attributes and these bytes: by requests that fill it, or in one piece.
abbrev pub IsStored : Placing → Heading → List ℕ → List ℕ → FileId → Filed → Filed → Type 0
IsStored Anywhere heading attributes bytes file old new = IsLed Fills old new × IsAdded old heading file (Plain attributes (blocks_with bytes)) new
IsStored InOnePiece heading attributes bytes file old new = IsAddedInOnePiece old heading file (block_count bytes) (Plain attributes (blocks_with bytes)) new

-- One header can map this number of blocks, and no run of free blocks is as long: this is the longest.
pub record HasNoPlace (I : List (List ℕ)) (L : VolumeLayout) (count longest : ℕ) : Type 0 where
  pub few : count ≤ header_blocks
  pub short : longest < count
  pub runs : (n : ℕ) → (n ≤ longest) ↔ HasFreeRun I L n

-- why it does not exist, and what part of it exists then
abbrev pub IsUnstored : Placing → Heading → List ℕ → List ℕ → Filed → Filed → Why → Type 0
IsUnstored Anywhere heading attributes bytes old new why = (reason : Refusal) × IsUnput heading attributes bytes old new reason × (why ≡ Request reason)
IsUnstored InOnePiece heading attributes bytes old new why =
    ((longest : ℕ) × HasNoPlace old.image old.layout (block_count bytes) longest × (new ≡ old) × (why ≡ Put (NoRun longest (block_count bytes))))
    ⊎ ((reason : Refusal) × IsNotInOnePiece heading attributes bytes old new reason × ((longest : ℕ) → ¬ HasNoPlace old.image old.layout (block_count bytes) longest) × (why ≡ Request reason))

-- A file is made by its owner, with this heading, these attributes and these bytes, its blocks placed this way, and entered by the requesting user.
pub record IsMadeFor (placing : Placing) (owner : Uic) (dir : FileId) (version : Option ℕ) (heading : Heading) (attributes bytes : List ℕ) (file : FileId) (old new : Filed) : Type 0 where
  -- what the owner leaves
  pub made : Filed
  pub stored : IsStored placing heading attributes bytes file (for_another old owner) made
  pub entered : IsObeyed (for_another made old.user) (Enter dir heading.name version file) new

-- What putting a file leaves: requests of the user, then a file that is made for the given owner, or else for the user. If files are replaced, the user
-- may have given it then what it keeps of another file. Nothing more was done.
pub record IsPut (replaces : Bool) (placing : Option Placing) (said : Option Uic) (old new : Filed) : Type 0 where
  pub mid : Filed
  pub before : IsLed (Puts replaces) old mid
  pub dir : FileId
  pub version : Option ℕ
  pub heading : Heading
  pub attributes : List ℕ
  pub bytes : List ℕ
  pub file : FileId
  pub filed : Filed
  pub held : Option Shown
  pub made : IsMadeFor (placing_kept placing held) (unwrap_or said old.user) dir version heading attributes bytes file mid filed
  pub alone : replaces ≡ false → held ≡ None
  pub given : KeepsAccess said (placing_kept placing held) (block_count bytes) held file filed new
