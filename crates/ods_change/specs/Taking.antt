-- What a file takes to grow, and why a volume has too little.
use Rattle.std.specs.Prelude.{◌≡◌, ◌⊎◌, ℕ, ◌+◌, ◌/◌, ◌<◌, ◌≤◌, List, None, Some, length, drop, take}
use Rattle.ods_space.specs.Layout.{VolumeLayout, header_at}
use Rattle.ods_alloc.specs.declared.fault.SpaceFault.{SpaceFault}
use Rattle.ods_alloc.specs.declared.fault.SpaceFault.TheVariants as fault
use Rattle.ods_header.specs.Header.{room_of}
use Rattle.ods_space.specs.Free.{free_blocks}
use Rattle.ods_state.specs.Wants.{blocks_behind, index_end, lack_for, numbers_for, allocated_blocks}
use Rattle.ods_alloc.specs.Extend.{cut}
use Rattle.ods_change.specs.declared.growing.Growing.{Growing}
use Rattle.ods_request.specs.declared.refusals.Refusal.{Refusal}
use Rattle.ods_request.specs.declared.refusals.Refusal.TheVariants as refusal

-- a lack of space as a refusal
abbrev pub refusal_for : SpaceFault → Refusal
refusal_for fault.VolumeFull = refusal.VolumeFull
refusal_for fault.HeadersFull = refusal.HeadersFull
refusal_for fault.ChainFull = refusal.ChainFull
refusal_for fault.NoMemory = refusal.NoMemory

-- INDEXF.SYS can gain `growth` blocks after the `count` blocks that a file takes, and these are its blocks: the lowest free ones; its last header has
-- room for their pointers
pub record HasPlaces (I : List (List ℕ)) (L : VolumeLayout) (count growth : ℕ) (places : List ℕ) : Type 0 where
  pub are : places ≡ take growth (drop count (free_blocks I L))
  pub enough : count + growth ≤ length (free_blocks I L)
  pub room : length (cut places) ≤ room_of (header_at I L (index_end I L)) / 2

-- too few blocks are free after the blocks of the file, or the header has no room
abbrev pub LacksPlaces : List (List ℕ) → VolumeLayout → ℕ → ℕ → Type 0
LacksPlaces I L count growth =
    (length (free_blocks I L) < count + growth)
    ⊎ (room_of (header_at I L (index_end I L)) / 2 < length (cut (take growth (drop count (free_blocks I L)))))

-- INDEXF.SYS cannot gain them, and this is the refusal: out of memory, or no block for each
abbrev pub IsWhyNoPlaces : List (List ℕ) → VolumeLayout → ℕ → ℕ → Refusal → Type 0
IsWhyNoPlaces I L count growth f = (f ≡ refusal.NoMemory) ⊎ ((f ≡ refusal.HeadersFull) × LacksPlaces I L count growth)

-- what a file takes to gain `count` blocks, if it has `headers` headers and `room` words after the pointers of the last header, with these blocks for
-- INDEXF.SYS; and the volume lacks nothing of it
pub record IsAllocatedBy (I : List (List ℕ)) (L : VolumeLayout) (headers room count : ℕ) (g : Growing) (more : List ℕ) : Type 0 where
  pub blocks : g.blocks.items ≡ allocated_blocks I L count
  pub numbers : g.numbers.items ≡ numbers_for I L headers room count
  pub places : more ≡ blocks_behind I L (numbers_for I L headers room count) count
  pub enough : lack_for I L headers room count ≡ None

-- such a file cannot gain them: out of memory, or the volume lacks what the refusal states
abbrev pub IsWhyNotAllocated : List (List ℕ) → VolumeLayout → ℕ → ℕ → ℕ → Refusal → Type 0
IsWhyNotAllocated I L headers room count f = (f ≡ refusal.NoMemory) ⊎ (lack_for I L headers room count ≡ Some f)
