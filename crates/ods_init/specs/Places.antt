-- The LBNs and sizes of the structures of a new volume, and whether they fit.
use Rattle.std.specs.Prelude.{◌≡◌, ℕ, ◌+◌, ◌*◌, ◌/◌, ◌^◌, ◌<◌, ◌≤◌, min, max, ◌==◌, if◌then◌else◌}
use Rattle.ods_init.specs.declared.places.Places.{Places}

-- The highest file number, H.FMAX: one for each block, which is the most files that the volume could ever have.
abbrev pub most_files : ℕ → ℕ
most_files blocks = min blocks 65535

-- H.IBSZ: the index bitmap has a bit for each file number
abbrev pub index_bitmap_size : ℕ → ℕ
index_bitmap_size blocks = (most_files blocks + 4095) / 4096

-- the blocks of the storage bitmap, which has a bit for each block
abbrev pub map_blocks : ℕ → ℕ
map_blocks blocks = (blocks + 4095) / 4096

-- INDEXF.SYS has the boot block, the home block, the index bitmap, and a header for each of the five reserved files and of the others, at least 16.
abbrev pub index_blocks : ℕ → ℕ → ℕ
index_blocks blocks files = 2 + index_bitmap_size blocks + max (files + 5) 16

-- The structures of a volume of `blocks` blocks, with headers for `files` files in addition to the five: INDEXF.SYS from LBN 0 on, then the storage
-- control block, the storage bitmap and the master directory.
abbrev pub places : ℕ → ℕ → Places
places blocks files = record {
  most_files = most_files blocks;
  index_bitmap_size = index_bitmap_size blocks;
  control = index_blocks blocks files;
  map_blocks = map_blocks blocks;
  master = index_blocks blocks files + 1 + map_blocks blocks;
}

-- there is room for them: INDEXF.SYS has no more blocks than one header maps, and the master directory is inside the volume
pub record HasRoom (blocks files : ℕ) : Type 0 where
  pub index : index_blocks blocks files ≤ 26112
  pub master : index_blocks blocks files + 1 + map_blocks blocks < blocks

-- the structures of a volume of `blocks` blocks follow consecutively inside it, and each is as large as it has to be
pub record AreFit (blocks : ℕ) (P : Places) : Type 0 where
  pub size : blocks ≤ 2 ^ 20
  pub some : 1 ≤ P.index_bitmap_size
  pub few : P.index_bitmap_size ≤ 16
  pub files : 16 ≤ P.most_files
  pub most : P.most_files ≤ 65535
  pub control : P.index_bitmap_size + 18 ≤ P.control
  pub index : P.control ≤ 26112
  pub covers : blocks ≤ 4096 * P.map_blocks
  pub map : P.map_blocks ≤ 256
  pub master : P.master ≡ P.control + 1 + P.map_blocks
  pub inside : P.master < blocks

-- the first block of the reserved file of this number
abbrev pub first_of : Places → ℕ → ℕ
first_of p n = if n == 1 then 0 else if n == 2 then p.control else p.master

-- the number of its blocks: for INDEXF.SYS all before the storage control block, for BITMAP.SYS that block and the bitmap, for the master directory
-- one, for the others none
abbrev pub count_of : Places → ℕ → ℕ
count_of p n = if n == 1 then p.control else if n == 2 then 1 + p.map_blocks else if n == 4 then 1 else 0

-- The default number of files in addition to the five, for a volume of `blocks` blocks: one for each 16 blocks, and no more than one header for
-- INDEXF.SYS allows.
abbrev pub default_of : ℕ → ℕ
default_of blocks = min (blocks / 16) 26089
