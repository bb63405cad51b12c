-- The contents of the blocks of a new volume.
use Rattle.std.specs.Prelude.{◌≡◌, ℕ, ◌+◌, ◌-◌, ◌*◌, ◌/◌, ◌%◌, ◌<◌, ◌≤◌, ◌⊎◌, ◌&&◌, ◌||◌, ◌==◌, nat_le, nat_lt, min, if◌then◌else◌, List, [], ◌∷◌, ◌++◌, length, replicate, slice_range, Option, None, Some}
use Rattle.std.specs.List.{flat_map, range_with_len}
use Rattle.ods_base.specs.Name.{RadName}
use Rattle.ods_base.specs.Block.{byte, word, has_bit, with_bytes, zeros}
use Rattle.ods_header.specs.declared.header.Header.{Header}
use Rattle.ods_header.specs.Header.{IsValidHeader, header_of, runs_of, blocks_of}
use Rattle.ods_header.specs.Home.{IsHome, home_of}
use Rattle.ods_header.specs.First.{primary_header}
use Rattle.ods_header.specs.Writing.{AreZeros}
use Rattle.ods_request.specs.Steps.{word_bytes, new_ident}
use Rattle.ods_init.specs.declared.places.Places.{Places}
use Rattle.ods_init.specs.declared.blueprint.Details.{Details}
use Rattle.ods_init.specs.declared.blueprint.Blueprint.{Blueprint}
use Rattle.ods_init.specs.HomeBytes.{front_bytes, home_text}
use Rattle.ods_init.specs.Places.{first_of, count_of}

-- the protection of new files and of the reserved files: the world may only read
abbrev pub protection : ℕ
protection = 57344

-- the names of the reserved files: INDEXF.SYS, BITMAP.SYS, BADBLK.SYS, 000000.DIR, CORIMG.SYS
abbrev pub reserved_name : ℕ → RadName
reserved_name n =
    if n == 1 then record { words = 14964 ∷ 8966 ∷ 0 ∷ []; ext = 31419 }
    else if n == 2 then record { words = 3580 ∷ 20856 ∷ 0 ∷ []; ext = 31419 }
    else if n == 3 then record { words = 3244 ∷ 3691 ∷ 0 ∷ []; ext = 31419 }
    else if n == 4 then record { words = 49230 ∷ 49230 ∷ 0 ∷ []; ext = 6778 }
    else record { words = 5418 ∷ 14927 ∷ 0 ∷ []; ext = 31419 }

-- The attributes of a file of records of one size: F.RTYP 1, F.RATT 0, F.RSIZ, F.HIBK, F.EFBK and F.FFBY. Below 65,536 blocks the high words are 0.
abbrev pub fixed_attributes : ℕ → ℕ → ℕ → ℕ → List ℕ
fixed_attributes record_size blocks end_block end_byte = flat_map word_bytes (1 ∷ record_size ∷ 0 ∷ blocks ∷ 0 ∷ end_block ∷ end_byte ∷ []) ++ replicate 18 0

-- the attributes of the master directory: records of 16 bytes, one block, of which 80 bytes are five names
abbrev pub master_attributes : List ℕ
master_attributes = fixed_attributes 16 1 1 80

-- The attributes of the reserved file with number n and this number of blocks. For INDEXF.SYS and BITMAP.SYS each block is a record, and all are in
-- use. A bare volume does not store this.
abbrev pub reserved_attributes : Option Details → ℕ → ℕ → List ℕ
reserved_attributes None n blocks = if n == 4 then master_attributes else replicate 32 0
reserved_attributes (Some d) n blocks =
    if (n == 1) || (n == 2) then fixed_attributes 512 blocks (blocks + 1) 0
    else if n == 4 then master_attributes
    else replicate 32 0

-- UC.CON of H.UCHA, 200 octal: the blocks of BITMAP.SYS are contiguous; a bare volume does not store this
abbrev pub reserved_characteristics : Option Details → ℕ → ℕ
reserved_characteristics None n = 0
reserved_characteristics (Some d) n = if n == 2 then 128 else 0

-- the ident of a file with no dates: its name, its type and version 1
abbrev pub bare_ident : RadName → List ℕ
bare_ident name = flat_map word_bytes (name.words ++ name.ext ∷ 1 ∷ []) ++ replicate 36 0

-- the ident of a reserved file: version 1, and its dates, if there are any
abbrev pub reserved_ident : Option Details → RadName → List ℕ
reserved_ident None name = bare_ident name
reserved_ident (Some d) name = new_ident name 1 d.stamp

-- the fields of its header without its pointers: sequence number n, version 1, the volume's owner, no next header
abbrev pub reserved_header : Blueprint → ℕ → Header
reserved_header W n =
    let attributes = reserved_attributes W.details n (count_of W.places n) in
    let first = primary_header (record { number = n; sequence = n }) W.owner protection attributes (reserved_ident W.details (reserved_name n)) in
    record first { user_char = reserved_characteristics W.details n }

-- b is that header: valid, with these fields, and with the fewest possible pointers to the blocks of the file
pub record IsReservedHeader (W : Blueprint) (n : ℕ) (b : List ℕ) : Type 0 where
  pub valid : IsValidHeader b n
  pub fields : header_of b ≡ record (reserved_header W n) { pointers = record { items = runs_of b } }
  pub blocks : blocks_of b ≡ range_with_len (first_of W.places n) (count_of W.places n)
  pub few : length (runs_of b) ≡ (count_of W.places n + 255) / 256
  pub rest : AreZeros b (102 + 4 * length (runs_of b)) 510

-- b is the home block, byte by byte: the fields by which a mount reads the volume, and its texts for people and for RSX
pub record IsNewHome (W : Blueprint) (b : List ℕ) : Type 0 where
  pub home : IsHome b
  pub fields : home_of b ≡ record { index_bitmap_size = W.places.index_bitmap_size; index_bitmap_lbn = 2; max_files = W.places.most_files; protection = protection }
  -- H.VNAM: the label, padded with zero bytes
  pub label : slice_range b 14 26 ≡ (home_text W).name
  -- H.INDN: the label, padded with spaces
  pub label_again : slice_range b 472 484 ≡ (home_text W).label
  -- the bytes before the label, from the owner on, and after the other label
  pub front : slice_range b 0 14 ≡ front_bytes W.places.index_bitmap_size W.places.most_files
  pub middle : slice_range b 30 58 ≡ (home_text W).middle
  pub end : slice_range b 484 508 ≡ (home_text W).end
  -- all other bytes except the checksums are zeros
  pub rest : AreZeros b 26 30 × AreZeros b 73 472 × AreZeros b 508 510
  -- H.VDAT: when it was made
  pub stamp : slice_range b 60 73 ≡ (home_text W).stamp

-- of the 4,096 bits of b, the bits from `from` on and before `end` are set
abbrev pub HasBits : List ℕ → ℕ → ℕ → Type 0
HasBits b from end = (i : ℕ) → i < 4096 → has_bit b i ≡ (nat_le from i && nat_lt i end)

-- the number of free blocks among the 4,096 blocks from `from` on, on a volume of `total` blocks
abbrev pub free_in : ℕ → Places → ℕ → ℕ
free_in total P from = min (total - from) 4096 - min (P.master + 1 - from) 4096

-- the first of them, if there is one, counted from `from`
abbrev pub first_in : Places → ℕ → ℕ
first_in P from = min (P.master + 1 - from) 4096 % 4096

-- the number of bitmap blocks that the storage control block counts: all if they are at most 126, otherwise none
abbrev pub counted : ℕ → ℕ
counted map_blocks = if nat_le map_blocks 126 then map_blocks else 0

-- b is the storage control block: the low byte of the number of the bitmap's blocks; for each counted block, the number of free blocks and the first
-- of them; the size of the volume
pub record IsControlBlock (total : ℕ) (P : Places) (b : List ℕ) : Type 0 where
  pub count : byte b 3 ≡ P.map_blocks % 256
  pub free : (k : ℕ) → k < counted P.map_blocks → word b (2 + 2 * k) ≡ free_in total P (4096 * k)
  pub first : (k : ℕ) → k < counted P.map_blocks → word b (3 + 2 * k) ≡ first_in P (4096 * k)
  pub size : 65536 * word b (2 + 2 * counted P.map_blocks) + word b (3 + 2 * counted P.map_blocks) ≡ total
  -- all other bytes are zeros
  pub before : AreZeros b 0 3
  pub behind : AreZeros b (8 + 4 * counted P.map_blocks) 512

-- b is the block at the LBN of the storage control block: on a bare volume it is zeros
abbrev pub IsControlOf : Option Details → Blueprint → List ℕ → Type 0
IsControlOf None W b = b ≡ zeros
IsControlOf (Some d) W b = IsControlBlock W.blocks W.places b

-- a block that begins with these bytes, and is padded with zeros
abbrev pub starting : List ℕ → List ℕ
starting bytes = with_bytes zeros 0 bytes

-- the entry of the reserved file of this number, its sequence number too, on this volume
abbrev pub reserved_entry : ℕ → List ℕ
reserved_entry n = flat_map word_bytes (n ∷ n ∷ 0 ∷ (reserved_name n).words ++ (reserved_name n).ext ∷ 1 ∷ [])

-- the master directory: the five reserved files, in the order of their numbers
abbrev pub master_block : List ℕ
master_block = starting (flat_map reserved_entry (range_with_len 1 5))

-- The block at an LBN of the volume of a blueprint.
pub record IsNewBlock (W : Blueprint) (lbn : ℕ) (b : List ℕ) : Type 0 where
  -- the home block
  pub home : lbn ≡ 1 → IsNewHome W b
  -- the index bitmap: numbers 1 to 5 are in use
  pub index_bitmap : 2 ≤ lbn → lbn < 2 + W.places.index_bitmap_size → HasBits b 0 (5 - 4096 * (lbn - 2))
  -- headers 1 to 5
  pub header : 2 + W.places.index_bitmap_size ≤ lbn → lbn < 7 + W.places.index_bitmap_size → IsReservedHeader W (lbn - (1 + W.places.index_bitmap_size)) b
  -- the storage control block
  pub control : lbn ≡ W.places.control → IsControlOf W.details W b
  -- the storage bitmap: the blocks after the master directory are free
  pub storage_bitmap : W.places.control < lbn → lbn < W.places.master →
      HasBits b (W.places.master + 1 - 4096 * (lbn - (W.places.control + 1))) (W.blocks - 4096 * (lbn - (W.places.control + 1)))
  -- the master directory
  pub master : lbn ≡ W.places.master → b ≡ master_block
  -- the boot block and the other headers: zeros
  pub empty : (lbn ≡ 0) ⊎ ((7 + W.places.index_bitmap_size ≤ lbn) × (lbn < W.places.control)) → b ≡ zeros
  -- the free blocks, whose bytes are those of the blueprint
  pub free : W.places.master < lbn → b ≡ replicate 512 W.filling
