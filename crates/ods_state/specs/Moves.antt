-- How the blocks of files, the free blocks and the free numbers move in an accepted request, and which blocks it may change.
use Rattle.std.specs.Prelude.{◌≡◌, ◌≢◌, ◌↔◌, ℕ, ◌+◌, ◌-◌, ◌<◌, ◌≤◌, ◌⊎◌, not, ◌&&◌, ◌||◌, ◌==◌, nat_lt, List, [], ◌∷◌, ◌++◌, length, replicate, take, drop, slice_get, if◌then◌else◌, Some}
use Rattle.std.specs.List.{All, Contains, flat_map}
use Rattle.ods_base.specs.Image.{block_at}
use Rattle.ods_base.specs.Name.{RadName, directory_type, key_of}
use Rattle.ods_base.specs.declared.file_id.FileId.{FileId}
use Rattle.ods_header.specs.Attributes.{IsWithAttributes}
use Rattle.ods_directory.specs.Entry.{entry_bytes}
use Rattle.ods_header.specs.Cutting.{IsCutTo, first_runs}
use Rattle.ods_header.specs.Header.{attributes_of, blocks_of, runs_of, sequence_of}
use Rattle.ods_space.specs.Layout.{Disk, last_number, with_places}
use Rattle.ods_space.specs.Files.{Holds}
use Rattle.ods_space.specs.Free.{is_free_block, is_free_number, is_open_number, is_covered}
use Rattle.ods_directory.specs.Mark.{marked}
use Rattle.ods_request.specs.declared.requests.Request.{Request}
use Rattle.ods_request.specs.declared.requests.Request.TheVariants.{Create, Extend, Truncate, Delete, Enter, LookUp, Remove, Read, Write, List as Lines, Stat, SetUser}
use Rattle.ods_request.specs.declared.answers.Answer.{Answer}
use Rattle.ods_request.specs.declared.answers.Answer.TheVariants.{Created, Entered, Removed}
use Rattle.ods_space.specs.Chain.{IsChain}
use Rattle.ods_header.specs.Writing.{deleted}
use Rattle.ods_alloc.specs.Extend.{GivesBits, IsHeaderPlace, IsIndexBitmap, IsStorageBitmap, AllocatesBits, chain_runs, cut, is_one_of}
use Rattle.ods_state.specs.Wants.{HasHeaders, Wants, index_blocks, index_end, allocated_blocks, allocated_numbers}
use Rattle.ods_state.specs.Made.{AreMade, AreZeroed, IndexGrows, IsEnteredAt, IsErased, header_on}

-- file n of a disk holds this LBN as this VBN
abbrev pub holds_on : Disk → ℕ → ℕ → ℕ → Type 0
holds_on D n vbn lbn = Holds D.image D.layout n vbn lbn

-- nothing moves: the layout, every chain, the held blocks and the free blocks and numbers are unchanged
pub record NothingMoves (D E : Disk) : Type 0 where
  pub layout : E.layout ≡ D.layout
  pub chains : (n : ℕ) (others blocks : List ℕ) → IsChain D.image D.layout n others blocks → IsChain E.image E.layout n others blocks
  pub held : (n vbn lbn : ℕ) → holds_on D n vbn lbn ↔ holds_on E n vbn lbn
  pub free : (lbn : ℕ) → is_free_block E.image E.layout lbn ≡ is_free_block D.image D.layout lbn
  pub numbers : (n : ℕ) → is_free_number E.image E.layout n ≡ is_free_number D.image D.layout n

-- file n holds LBN x at this VBN: it is file m, and x is one of these blocks, which it holds after `count` of its own
abbrev pub IsNextBlock : ℕ → ℕ → List ℕ → ℕ → ℕ → ℕ → Type 0
IsNextBlock m count blocks n vbn lbn = (k : ℕ) × (n ≡ m) × (vbn ≡ count + k + 1) × (slice_get blocks k ≡ Some lbn)

-- Blocks and numbers were allocated for a file that had these headers and blocks. Its number is the first of all its headers. INDEXF.SYS received the
-- blocks that these numbers need.
pub record AreAllocated (D E : Disk) (headers blocks : List ℕ) (count : ℕ) : Type 0 where
  pub number : ℕ
  pub layout : E.layout ≡ with_places D.layout (index_blocks D.image D.layout headers count)
  pub chain : HasHeaders E.image E.layout number (headers ++ allocated_numbers D.image D.layout headers count) (blocks ++ allocated_blocks D.image D.layout count)
  pub pointers : chain_runs E.image E.layout (headers ++ allocated_numbers D.image D.layout headers count) ≡ chain_runs D.image D.layout headers ++ cut (allocated_blocks D.image D.layout count)
  -- the file holds its new blocks after its own, and so does INDEXF.SYS
  pub held : (n vbn lbn : ℕ) → holds_on E n vbn lbn
      ↔ (holds_on D n vbn lbn ⊎ IsNextBlock number (length blocks) (allocated_blocks D.image D.layout count) n vbn lbn
      ⊎ IsNextBlock 1 (length D.layout.index) (index_blocks D.image D.layout headers count) n vbn lbn)
  pub free : (lbn : ℕ) → is_free_block E.image E.layout lbn
      ≡ (is_free_block D.image D.layout lbn && not (is_one_of (allocated_blocks D.image D.layout count ++ index_blocks D.image D.layout headers count) lbn))
  -- the numbers are counted up to the last one for which INDEXF.SYS now has a block
  pub numbers : (n : ℕ) → is_free_number E.image E.layout n
      ≡ (is_open_number D.image D.layout (last_number E.layout) n && not (is_one_of (allocated_numbers D.image D.layout headers count) n))
  -- in the two bitmaps, only the bits of these blocks and numbers change
  pub bits : AllocatesBits D.image D.layout (allocated_blocks D.image D.layout count ++ index_blocks D.image D.layout headers count) (allocated_numbers D.image D.layout headers count) E.image
  -- each new header has the old sequence number plus one; without a block before, the old sequence number is 0
  pub sequences : (n : ℕ) → Contains (allocated_numbers D.image D.layout headers count) n → sequence_of (header_on E n) ≡ sequence_of (header_on D n) + 1
  -- how its headers are written, and how INDEXF.SYS grows
  pub made : AreMade D E headers (allocated_numbers D.image D.layout headers count)
  pub index : IndexGrows D E (index_blocks D.image D.layout headers count) (allocated_numbers D.image D.layout headers count)

-- the blocks and the numbers of a file were given back
pub record AreGivenBack (D E : Disk) (number : ℕ) : Type 0 where
  pub layout : E.layout ≡ D.layout
  pub headers : List ℕ
  pub blocks : List ℕ
  pub file : HasHeaders D.image D.layout number headers blocks
  pub held : (n vbn lbn : ℕ) → holds_on E n vbn lbn ↔ (holds_on D n vbn lbn × (n ≢ number))
  pub free : (lbn : ℕ) → is_free_block E.image E.layout lbn
      ≡ (is_free_block D.image D.layout lbn || (is_one_of blocks lbn && is_covered D.layout lbn))
  pub numbers : (n : ℕ) → is_free_number E.image E.layout n
      ≡ (is_free_number D.image D.layout n || (is_one_of headers n && (nat_lt 5 n && nat_lt (sequence_of (header_on D n)) 65535)))
  -- in the two bitmaps, only the bits of these blocks and numbers change
  pub bits : GivesBits D.image D.layout blocks headers E.image
  -- a header that is given back keeps its bytes except its number, now 0, and its checksum
  pub kept : (n : ℕ) → Contains headers n → header_on E n ≡ deleted (header_on D n)

-- the blocks that these headers map, one header after another
abbrev pub mapped_on : Disk → List ℕ → List ℕ
mapped_on D numbers = flat_map (λ n. blocks_of (header_on D n)) numbers

-- the headers of a chain up to the header of this block, counted from 1; for block 0, only the first header
pub record EndsAt (D : Disk) (kept : List ℕ) (block : ℕ) : Type 0 where
  pub some : 1 ≤ length kept
  pub has : block ≤ length (mapped_on D kept)
  pub first : (k : ℕ) → 1 ≤ k → k < length kept → length (mapped_on D (take k kept)) < block

-- A file kept its first `count` blocks, and its headers up to the header of the last of them. Its other blocks and headers were given back.
pub record AreCutOff (D E : Disk) (number count : ℕ) : Type 0 where
  pub layout : E.layout ≡ D.layout
  pub kept : List ℕ
  pub gone : List ℕ
  pub blocks : List ℕ
  pub file : HasHeaders D.image D.layout number (kept ++ gone) blocks
  pub ends : EndsAt D kept count
  pub chain : HasHeaders E.image E.layout number kept (take count blocks)
  pub pointers : chain_runs E.image E.layout kept ≡ first_runs count (chain_runs D.image D.layout kept)
  pub held : (n vbn lbn : ℕ) → holds_on E n vbn lbn ↔ (holds_on D n vbn lbn × ((n ≢ number) ⊎ (vbn ≤ count)))
  pub free : (lbn : ℕ) → is_free_block E.image E.layout lbn
      ≡ (is_free_block D.image D.layout lbn || (is_one_of (drop count blocks) lbn && is_covered D.layout lbn))
  pub numbers : (n : ℕ) → is_free_number E.image E.layout n
      ≡ (is_free_number D.image D.layout n || (is_one_of gone n && (nat_lt 5 n && nat_lt (sequence_of (header_on D n)) 65535)))
  -- in the two bitmaps, only the bits of these blocks and numbers change
  pub bits : GivesBits D.image D.layout (drop count blocks) gone E.image
  -- a header that is given back keeps its bytes except its number, now 0, and its checksum
  pub deletes : (n : ℕ) → Contains gone n → header_on E n ≡ deleted (header_on D n)
  -- of the kept headers only the last changes: its pointers past the last block are dropped, the pointer of that block is cut, and it has no next
  -- header
  pub stays : (front : List ℕ) (last : ℕ) → kept ≡ front ++ last ∷ [] → All (λ n. header_on E n ≡ header_on D n) front
  pub last : (front : List ℕ) (last : ℕ) → kept ≡ front ++ last ∷ []
      → IsCutTo (header_on D last) (first_runs (count - length (mapped_on D front)) (runs_of (header_on D last))) (header_on E last)

-- the number of a created ID is the first allocated number, and its sequence number is the new one
abbrev pub IsCreatedId : Disk → Disk → Answer → Type 0
IsCreatedId D E (Created id) = (id.sequence ≡ sequence_of (header_on E id.number)) × (slice_get (allocated_numbers D.image D.layout [] 0) 0 ≡ Some id.number)
IsCreatedId D E _ = Unit {0}

-- The attributes of a new file are zeros. The attributes of a new directory store a record size of 16 bytes, its number of blocks, and its end mark
-- at byte 0.
abbrev pub new_attributes : RadName → ℕ → List ℕ
new_attributes name count =
    if name.ext == directory_type then marked (1 ∷ 0 ∷ 16 ∷ 0 ∷ replicate 28 0) 0 count
    else replicate 32 0

-- a created file has the attributes of a new file
abbrev pub HasNewAttributes : Disk → Answer → RadName → ℕ → Type 0
HasNewAttributes E (Created id) name count = attributes_of (header_on E id.number) ≡ new_attributes name count
HasNewAttributes E _ name count = Unit {0}

-- the header is unchanged except for its attributes and checksum
abbrev pub ChangesAttributes : List ℕ → List ℕ → Type 0
ChangesAttributes b c = IsWithAttributes b (attributes_of c) c

-- a name that was entered is in the directory, under the version of the answer
abbrev pub IsNameEntered : Disk → Disk → FileId → RadName → FileId → Answer → Type 0
IsNameEntered D E dir name file (Entered version) = IsEnteredAt D E dir.number (entry_bytes file (key_of name version))
IsNameEntered D E dir name file _ = Unit {0}

-- a name that was removed, of the version of the answer, is no longer in the directory
abbrev pub IsNameErased : Disk → Disk → FileId → RadName → Answer → Type 0
IsNameErased D E dir name (Removed file version) = IsErased D E dir.number (key_of name version)
IsNameErased D E dir name _ = Unit {0}

-- either the request needs blocks and they are allocated, or it needs none and nothing moves
abbrev pub MayAllocate : Disk → Disk → Request → Type 0
MayAllocate D E r =
    ((headers : List ℕ) (blocks : List ℕ) (count : ℕ) → Wants D.image D.layout r headers blocks count → AreAllocated D E headers blocks count)
    × (((headers : List ℕ) (blocks : List ℕ) (count : ℕ) → ¬ Wants D.image D.layout r headers blocks count) → NothingMoves D E)

-- if the request needs no block, the first header of directory dir is unchanged except for its attributes and checksum
abbrev pub KeepsHeader : Disk → Disk → Request → FileId → Type 0
KeepsHeader D E r dir =
    ((headers : List ℕ) (blocks : List ℕ) (count : ℕ) → ¬ Wants D.image D.layout r headers blocks count) → ChangesAttributes (header_on D dir.number) (header_on E dir.number)

-- what an accepted request moves and writes, case by case
abbrev pub Moves : Disk → Request → Answer → Disk → Type 0
Moves D (Create name version count stamp) a E =
    MayAllocate D E (Create name version count stamp) × IsCreatedId D E a × HasNewAttributes E a name count × AreZeroed D E count
Moves D (Extend file count) a E = MayAllocate D E (Extend file count) × AreZeroed D E count
Moves D (Truncate file count) a E = AreCutOff D E file.number count
Moves D (Delete file) a E = AreGivenBack D E file.number
Moves D (Enter dir name version file) a E =
    MayAllocate D E (Enter dir name version file) × KeepsHeader D E (Enter dir name version file) dir × IsNameEntered D E dir name file a
Moves D (Remove dir name pick) a E = NothingMoves D E × (header_on E dir.number ≡ header_on D dir.number) × IsNameErased D E dir name a
Moves D (LookUp dir name pick) a E = NothingMoves D E
Moves D (Read file vbn) a E = NothingMoves D E
Moves D (Write file vbn block) a E = NothingMoves D E
Moves D (Lines dir) a E = NothingMoves D E
Moves D (Stat file) a E = NothingMoves D E
Moves D (SetUser file attributes) a E = NothingMoves D E × IsWithAttributes (header_on D file.number) attributes (header_on E file.number)

-- file n holds LBN x
abbrev pub IsBlockOf : Disk → ℕ → ℕ → Type 0
IsBlockOf D n x = (vbn : ℕ) × holds_on D n vbn x

-- if INDEXF.SYS receives these blocks, they and its last header may change
abbrev pub TouchedByIndex : Disk → List ℕ → ℕ → Type 0
TouchedByIndex D blocks x = Contains blocks x ⊎ ((blocks ≢ []) × IsHeaderPlace D.layout (index_end D.image D.layout ∷ []) x)

-- the request may change block x because it allocates blocks
abbrev pub TouchedByAllocating : Disk → Request → Disk → ℕ → Type 0
TouchedByAllocating D r E x =
    (headers : List ℕ) × (blocks : List ℕ) × (count : ℕ) × Wants D.image D.layout r headers blocks count
    × (IsIndexBitmap D.layout x ⊎ IsStorageBitmap D.layout x ⊎ IsHeaderPlace D.layout (headers ++ allocated_numbers D.image D.layout headers count) x
    ⊎ Contains (allocated_blocks D.image D.layout count) x ⊎ TouchedByIndex D (index_blocks D.image D.layout headers count) x)

-- the request may change block x because it gives back what file n has
abbrev pub TouchedByGiving : Disk → ℕ → ℕ → Type 0
TouchedByGiving D n x =
    IsIndexBitmap D.layout x ⊎ IsStorageBitmap D.layout x
    ⊎ ((headers : List ℕ) × (blocks : List ℕ) × HasHeaders D.image D.layout n headers blocks × IsHeaderPlace D.layout headers x)

-- the request may change block x
abbrev pub Touches : Disk → Request → Disk → ℕ → Type 0
Touches D (Create name version count stamp) E x = TouchedByAllocating D (Create name version count stamp) E x
Touches D (Extend file count) E x = TouchedByAllocating D (Extend file count) E x
Touches D (Truncate file count) E x = TouchedByGiving D file.number x
Touches D (Delete file) E x = TouchedByGiving D file.number x
Touches D (Enter dir name version file) E x =
    TouchedByAllocating D (Enter dir name version file) E x ⊎ IsHeaderPlace D.layout (dir.number ∷ []) x ⊎ IsBlockOf D dir.number x
Touches D (Remove dir name pick) E x = IsBlockOf D dir.number x
Touches D (Write file vbn block) E x = holds_on D file.number vbn x
Touches D (SetUser file attributes) E x = IsHeaderPlace D.layout (file.number ∷ []) x
Touches D (LookUp dir name pick) E x = ⊥
Touches D (Read file vbn) E x = ⊥
Touches D (Lines dir) E x = ⊥
Touches D (Stat file) E x = ⊥

-- every other block is unchanged
abbrev pub ChangesOnlyTouched : Disk → Request → Disk → Type 0
ChangesOnlyTouched D r E = (length E.image ≡ length D.image) × ((x : ℕ) → ¬ Touches D r E x → block_at E.image x ≡ block_at D.image x)
