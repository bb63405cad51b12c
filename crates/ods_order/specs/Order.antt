-- The orders of the sectors of a floppy in a container, and the offset of each sector of the volume.
use Rattle.std.specs.Prelude.{ℕ, ◌+◌, ◌*◌, ◌/◌, ◌%◌, ◌<◌, ◌≤◌, List, codes}
use Rattle.ods_order.specs.declared.order.Order.{Order}
use Rattle.ods_order.specs.declared.order.Order.TheVariants.{Rx01, Rx02, Rx50}

-- the name of an order
abbrev pub order_name : Order → List ℕ
order_name Rx01 = codes "rx01"
order_name Rx02 = codes "rx02"
order_name Rx50 = codes "rx50"

-- the size of a sector in bytes
abbrev pub sector_size : Order → ℕ
sector_size Rx01 = 128
sector_size Rx02 = 256
sector_size Rx50 = 512

-- The number of sectors of the volume. The first of the 77 tracks of an RX01 or an RX02 has none of them, and the other 76 have 26 each. The 80
-- tracks of an RX50 have 10 each.
abbrev pub sector_count : Order → ℕ
sector_count Rx01 = 1976
sector_count Rx02 = 1976
sector_count Rx50 = 800

-- the number of blocks of the volume
abbrev pub block_count : Order → ℕ
block_count Rx01 = 494
block_count Rx02 = 988
block_count Rx50 = 800

-- the size of a container in bytes, for all tracks
abbrev pub container_size : Order → ℕ
container_size Rx01 = 256256
container_size Rx02 = 512512
container_size Rx50 = 409600

-- the size in bytes of the track that is not part of the volume
abbrev pub first_track : Order → ℕ
first_track Rx01 = 3328
first_track Rx02 = 6656
first_track Rx50 = 0

-- The sector of an RX01 or an RX02 that has sector n of the volume. It is on a track of 26 sectors, after the first track. On a track every second
-- sector comes next, and from sector 13 on the sectors between. Each track begins 6 sectors further than the one before.
abbrev pub floppy_slot : ℕ → ℕ
floppy_slot n = 26 * (n / 26 + 1) + (2 * (n % 26) + n % 26 / 13 + 6 * (n / 26)) % 26

-- The sector of an RX50 that has sector n of the volume. The volume begins on the second track of 10 sectors, and its last track is the first. On a
-- track every second sector comes next, and from sector 5 on the sectors between. Each track begins 2 sectors further than the one before.
abbrev pub rx50_slot : ℕ → ℕ
rx50_slot n = 10 * ((n / 10 + 1) % 80) + (2 * (n % 10) + n % 10 / 5 + 2 * (n / 10)) % 10

-- the offset of sector n of the volume in the container, in bytes
abbrev pub place : Order → ℕ → ℕ
place Rx01 n = 128 * floppy_slot n
place Rx02 n = 256 * floppy_slot n
place Rx50 n = 512 * rx50_slot n

-- byte i of the container belongs to sector n of the volume
abbrev pub IsOfSector : Order → ℕ → ℕ → Type 0
IsOfSector order n i = (place order n ≤ i) × (i < place order n + sector_size order)

-- byte i of the container belongs to no sector of the volume
abbrev pub IsBeside : Order → ℕ → Type 0
IsBeside order i = (n : ℕ) → n < sector_count order → ¬ IsOfSector order n i
