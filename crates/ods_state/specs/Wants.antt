-- What a request needs from a volume: blocks, and numbers for headers; and what the volume lacks.
use Rattle.std.specs.Prelude.{◌≡◌, ℕ, zero, suc, ◌+◌, ◌-◌, ◌/◌, Bool, true, ◌||◌, nat_lt, List, [], ◌∷◌, length, take, drop, Option, Some}
use Rattle.ods_header.specs.Header.{room_of}
use Rattle.ods_space.specs.Layout.{VolumeLayout, header_at, last_number}
use Rattle.ods_space.specs.Chain.{headers_of, numbers_of}
use Rattle.ods_space.specs.Files.{IsWhole}
use Rattle.ods_space.specs.Free.{free_blocks, open_numbers}
use Rattle.ods_alloc.specs.Extend.{cut, headers_needed, last_of}
use Rattle.ods_directory.specs.declared.slot.Slot.{Slot}
use Rattle.ods_directory.specs.Mark.{IsSlot}
use Rattle.ods_mount.specs.Faults.{contents_of, mark_at}
use Rattle.ods_request.specs.declared.requests.Request.{Request}
use Rattle.ods_request.specs.declared.requests.Request.TheVariants.{Create, Extend, Truncate, Delete, Enter, LookUp, Remove, Read, Write, List as Lines, Stat, SetUser}
use Rattle.ods_request.specs.declared.refusals.Refusal.{Refusal}
use Rattle.ods_request.specs.declared.refusals.Refusal.TheVariants as refusal
use Rattle.ods_request.specs.Faults.{first_of}

-- the headers of file n are these, and they name these blocks
abbrev pub HasHeaders : List (List ℕ) → VolumeLayout → ℕ → List ℕ → List ℕ → Type 0
HasHeaders I L n headers blocks = (others : List ℕ) × (headers ≡ n ∷ others) × IsWhole I L n others blocks

-- a name entered in directory n needs one more block
abbrev pub EnterGrows : List (List ℕ) → VolumeLayout → ℕ → List ℕ → Type 0
EnterGrows I L n blocks = (slot : Slot) × IsSlot (contents_of I blocks) (mark_at I L n blocks) slot × (slot.grows ≡ true)

-- The request needs n blocks for a file with these headers and blocks. A new file has none.
abbrev pub Wants : List (List ℕ) → VolumeLayout → Request → List ℕ → List ℕ → ℕ → Type 0
Wants I L (Create name version count stamp) headers blocks n = (headers ≡ []) × (blocks ≡ []) × (n ≡ count)
Wants I L (Extend file count) headers blocks n = HasHeaders I L file.number headers blocks × (n ≡ count)
Wants I L (Enter dir name version file) headers blocks n =
    HasHeaders I L dir.number headers blocks × EnterGrows I L dir.number blocks × (n ≡ 1)
Wants I L (Truncate file count) headers blocks n = ⊥
Wants I L (Delete file) headers blocks n = ⊥
Wants I L (LookUp dir name pick) headers blocks n = ⊥
Wants I L (Remove dir name pick) headers blocks n = ⊥
Wants I L (Read file vbn) headers blocks n = ⊥
Wants I L (Write file vbn block) headers blocks n = ⊥
Wants I L (Lines dir) headers blocks n = ⊥
Wants I L (Stat file) headers blocks n = ⊥
Wants I L (SetUser file attributes) headers blocks n = ⊥

-- the room in words for pointers in the last header; a new header has 204 words
abbrev pub room_in : List (List ℕ) → VolumeLayout → List ℕ → ℕ
room_in I L [] = 204
room_in I L (n ∷ others) = room_of (header_at I L (last_of n others))

-- The number of new headers that this number of runs needs, for a file with `headers` headers, and `room` words after the pointers of the last
-- header: one for each 102 runs past the room, and the first header of a new file.
abbrev pub new_headers : ℕ → ℕ → ℕ → ℕ
new_headers zero room runs = 1 + headers_needed (room / 2) runs
new_headers (suc headers) room runs = headers_needed (room / 2) runs

-- the allocated blocks: the n lowest free ones, lowest first, or all free blocks if there are fewer than n
abbrev pub allocated_blocks : List (List ℕ) → VolumeLayout → ℕ → List ℕ
allocated_blocks I L n = take n (free_blocks I L)

-- the number of new headers that a file needs for n blocks, with `headers` headers, and `room` words after the pointers of the last
abbrev pub count_for : List (List ℕ) → VolumeLayout → ℕ → ℕ → ℕ → ℕ
count_for I L headers room n = new_headers headers room (length (cut (allocated_blocks I L n)))

-- the numbers of the new headers that a file needs for n blocks, lowest first: free numbers, and then numbers for which INDEXF.SYS has no block yet
abbrev pub numbers_for : List (List ℕ) → VolumeLayout → ℕ → ℕ → ℕ → List ℕ
numbers_for I L headers room n = take (count_for I L headers room n) (open_numbers I L)

-- the number of blocks that INDEXF.SYS needs to have one for each of these ascending numbers
abbrev pub index_growth : VolumeLayout → List ℕ → ℕ
index_growth L numbers = last_of 0 numbers - last_number L

-- the blocks that INDEXF.SYS receives for these numbers of a file that receives n blocks: the lowest free ones after the n blocks of the file
abbrev pub blocks_behind : List (List ℕ) → VolumeLayout → List ℕ → ℕ → List ℕ
blocks_behind I L numbers n = take (index_growth L numbers) (drop n (free_blocks I L))

-- the number of the last header of INDEXF.SYS, which receives the pointers to its new blocks
abbrev pub index_end : List (List ℕ) → VolumeLayout → ℕ
index_end I L = last_of 0 (numbers_of (headers_of I L 1))

-- INDEXF.SYS cannot receive a block for each of these numbers. Too few blocks are free after the n blocks of the file, or its last header has no room
-- for the pointers.
abbrev pub lacks_places : List (List ℕ) → VolumeLayout → List ℕ → ℕ → Bool
lacks_places I L numbers n =
    nat_lt (length (free_blocks I L)) (n + index_growth L numbers)
    || nat_lt (room_of (header_at I L (index_end I L)) / 2) (length (cut (blocks_behind I L numbers n)))

-- what the volume lacks for a file with these headers and this room that receives n blocks; there may be too few numbers for its new headers, or no
-- block for each
unfoldable pub lack_for : List (List ℕ) → VolumeLayout → ℕ → ℕ → ℕ → Option Refusal
lack_for I L headers room n = first_of (
    (nat_lt (length (free_blocks I L)) n, refusal.VolumeFull)
    ∷ (nat_lt (length (open_numbers I L)) (count_for I L headers room n) || lacks_places I L (numbers_for I L headers room n) n, refusal.HeadersFull)
    ∷ (nat_lt 256 (headers + count_for I L headers room n), refusal.ChainFull) ∷ [])

-- the number of new headers that the file with these headers needs for n blocks
abbrev pub allocated_count : List (List ℕ) → VolumeLayout → List ℕ → ℕ → ℕ
allocated_count I L headers n = count_for I L (length headers) (room_in I L headers) n

-- the numbers of these new headers, lowest first
abbrev pub allocated_numbers : List (List ℕ) → VolumeLayout → List ℕ → ℕ → List ℕ
allocated_numbers I L headers n = numbers_for I L (length headers) (room_in I L headers) n

-- the blocks that INDEXF.SYS receives for these new headers
abbrev pub index_blocks : List (List ℕ) → VolumeLayout → List ℕ → ℕ → List ℕ
index_blocks I L headers n = blocks_behind I L (allocated_numbers I L headers n) n

-- what the volume lacks for the file with these headers to receive n blocks
abbrev pub lack_of : List (List ℕ) → VolumeLayout → List ℕ → ℕ → Option Refusal
lack_of I L headers n = lack_for I L (length headers) (room_in I L headers) n

-- the volume lacks what the request needs, and f is the refusal
pub record Lacks (I : List (List ℕ)) (L : VolumeLayout) (r : Request) (f : Refusal) : Type 0 where
  pub headers : List ℕ
  pub blocks : List ℕ
  pub count : ℕ
  pub wants : Wants I L r headers blocks count
  pub lacking : lack_of I L headers count ≡ Some f
