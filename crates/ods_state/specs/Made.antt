-- The contents of the blocks that a request writes: the headers of a file that receives blocks, its new blocks, and the entries of directories.
use Rattle.std.specs.Prelude.{◌≡◌, ◌≢◌, ℕ, ◌+◌, ◌*◌, ◌/◌, ◌<◌, ◌≤◌, ◌==◌, List, [], ◌∷◌, ◌++◌, length, replicate, drop, slice_get, if◌then◌else◌, Some, IsTrue}
use Rattle.std.specs.List.{All, Contains}
use Rattle.ods_base.specs.Block.{zeros}
use Rattle.ods_base.specs.Image.{block_at}
use Rattle.ods_header.specs.Extension.{IsExtensionOf, IsMadeHeader}
use Rattle.ods_header.specs.Header.{attributes_of, next_volume_of, room_of}
use Rattle.ods_header.specs.Pointing.{BeginsPointers, IsWithRuns, KeepsFields, KeepsForm, KeepsRest}
use Rattle.ods_space.specs.Files.{HasBlocks}
use Rattle.ods_space.specs.Layout.{Disk, header_at, last_number}
use Rattle.ods_alloc.specs.Extend.{EndsClean, cut, last_of}
use Rattle.ods_directory.specs.declared.slot.Slot.{Slot}
use Rattle.ods_directory.specs.Entry.{entry_at, is_used}
use Rattle.ods_directory.specs.Mark.{IsSlot, grown, marked, written}
use Rattle.ods_mount.specs.Faults.{contents_of, mark_at}
use Rattle.ods_state.specs.Wants.{HasHeaders, index_end, allocated_blocks}

-- header n of a disk
abbrev pub header_on : Disk → ℕ → List ℕ
header_on D n = header_at D.image D.layout n

-- The headers of a file that received blocks: it had `headers`, and received `numbers`.
pub record AreMade (D E : Disk) (headers numbers : List ℕ) : Type 0 where
  -- old headers keep their form and their pointers; all except the first also keep the bytes that describe the file
  pub stays : All (λ m. KeepsForm (header_on D m) (header_on E m)) headers
  pub others : All (λ m. KeepsFields (header_on D m) (header_on E m)) (drop 1 headers)
  pub begins : All (λ m. BeginsPointers (header_on D m) (header_on E m)) headers
  -- the bytes after their pointers are unchanged, and so is M.EFSQ of a header without a next header
  pub rest : All (λ m. KeepsRest (header_on D m) (header_on E m)) headers
  -- the new headers have one form, and each except the first of the file is an extension header of it
  pub form : All (λ m. IsMadeHeader (header_on E m)) numbers
  pub made : (first m : ℕ) → slice_get (headers ++ numbers) 0 ≡ Some first → Contains numbers m → m ≢ first → IsExtensionOf (header_on E first) (header_on E m)
  -- a new header without a next header has sequence number 0 for it
  pub clean : All (λ m. EndsClean (header_on E m)) numbers
  -- a header is full before a new one follows it
  pub filled : (i m : ℕ) → length headers ≤ i + 1 → i + 1 < length (headers ++ numbers) → slice_get (headers ++ numbers) i ≡ Some m → room_of (header_on E m) / 2 ≡ 0
  -- if no new header follows, the last one keeps the volume number of its next header
  pub last_volume : numbers ≡ [] → (first : ℕ) (behind : List ℕ) → headers ≡ first ∷ behind → next_volume_of (header_on E (last_of first behind)) ≡ next_volume_of (header_on D (last_of first behind))

-- INDEXF.SYS received these blocks after its own, and these are the numbers of new headers. INDEXF.SYS has the same headers as before.
pub record IndexGrows (D E : Disk) (blocks numbers : List ℕ) : Type 0 where
  pub chain : (headers : List ℕ) → HasHeaders D.image D.layout 1 headers D.layout.index → HasHeaders E.image E.layout 1 headers (D.layout.index ++ blocks)
  -- the runs of the blocks follow its pointers in its last header, in which only M.USE, the new pointers and the checksum change
  pub last : IsWithRuns (header_on D (index_end D.image D.layout)) (cut blocks) (header_on E (index_end D.image D.layout))
  -- a block without a new header is zeros
  pub zeroed : (n : ℕ) → last_number D.layout < n → n ≤ last_number E.layout → ¬ Contains numbers n → header_on E n ≡ zeros

-- the allocated blocks are zeros
abbrev pub AreZeroed : Disk → Disk → ℕ → Type 0
AreZeroed D E count = All (λ lbn. block_at E.image lbn ≡ zeros) (allocated_blocks D.image D.layout count)

-- An entry was written into directory n at the slot, with a new block of zeros for it if the slot grows. No other byte of the blocks changes. The end
-- mark is the slot's. If it moves, it is written with the number of blocks; otherwise the attributes are unchanged.
pub record IsEnteredAt (D E : Disk) (n : ℕ) (entry : List ℕ) : Type 0 where
  pub old : List ℕ
  pub new : List ℕ
  pub slot : Slot
  pub held : HasBlocks D.image D.layout n old × HasBlocks E.image E.layout n new
  pub place : IsSlot (contents_of D.image old) (mark_at D.image D.layout n old) slot
  pub bytes : contents_of E.image new ≡ written (grown (contents_of D.image old) slot) slot.at entry
  pub mark : attributes_of (header_on E n)
      ≡ (if slot.mark == mark_at D.image D.layout n old then attributes_of (header_on D n) else marked (attributes_of (header_on D n)) slot.mark (length new))

-- the entry of this name in directory n becomes 16 zero bytes, and no other byte of the blocks changes
pub record IsErased (D E : Disk) (n : ℕ) (key : List ℕ) : Type 0 where
  pub blocks : List ℕ
  pub held : HasBlocks D.image D.layout n blocks
  pub at : ℕ
  pub below : at < mark_at D.image D.layout n blocks / 16
  pub found : IsTrue (is_used (entry_at (contents_of D.image blocks) at)) × ((entry_at (contents_of D.image blocks) at).key ≡ key)
  pub erased : contents_of E.image blocks ≡ written (contents_of D.image blocks) (16 * at) (replicate 16 0)
