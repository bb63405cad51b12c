-- The growth of INDEXF.SYS for later files: the volume afterwards, and why it cannot grow.
use Rattle.std.specs.Prelude.{◌≡◌, ◌⊎◌, ◌↔◌, ℕ, ◌+◌, ◌/◌, ◌<◌, List, [], ◌∷◌, ◌++◌, length, drop}
use Rattle.std.specs.List.{All, Contains, filter, range_with_len}
use Rattle.ods_base.specs.Block.{zeros}
use Rattle.ods_base.specs.Image.{block_at}
use Rattle.ods_header.specs.Header.{room_of}
use Rattle.ods_space.specs.Draft.{Changes, applied}
use Rattle.ods_space.specs.Free.{free_blocks, free_numbers, is_open_number}
use Rattle.ods_space.specs.Layout.{VolumeLayout, greatest_number, header_at, last_number, with_places}
use Rattle.ods_space.specs.declared.disk.Disk.{Disk}
use Rattle.ods_alloc.specs.Extend.{IsHeaderPlace, IsStorageBitmap, cut}
use Rattle.ods_mount.specs.Sound.{IsSoundBy}
use Rattle.ods_request.specs.Catalogue.{Catalogue}
use Rattle.ods_request.specs.declared.refusals.Refusal.{Refusal}
use Rattle.ods_request.specs.declared.refusals.Refusal.TheVariants as refusal
use Rattle.ods_state.specs.Contents.{ShowsBy}
use Rattle.ods_state.specs.Version.{PastIsSpent}
use Rattle.ods_state.specs.Wants.{index_end, allocated_blocks}

-- INDEXF.SYS cannot gain headers for `count` more files: it may have no more, or too few blocks are free, or its last header has no room for the
-- pointers
abbrev pub LacksHeaders : List (List ℕ) → VolumeLayout → ℕ → Type 0
LacksHeaders I L count =
    (greatest_number L.home < last_number L + count)
    ⊎ (length (free_blocks I L) < count)
    ⊎ (room_of (header_at I L (index_end I L)) / 2 < length (cut (allocated_blocks I L count)))

-- The blocks J, by the layout M, are the volume I, by the layout L, after INDEXF.SYS gained headers for `count` more files, with no other change.
pub record IsIndexGrown (I : List (List ℕ)) (L : VolumeLayout) (count : ℕ) (J : List (List ℕ)) (M : VolumeLayout) : Type 0 where
  pub sound : IsSoundBy J M
  -- they show the same catalogues, and no past ID can be assigned again
  pub shown : (C : Catalogue) → ShowsBy I L C ↔ ShowsBy J M C
  pub past : (C : Catalogue) → PastIsSpent I L C → PastIsSpent J M C
  -- all that it takes is available: the lowest free blocks, which then follow its own, and are zeros
  pub enough : ¬ LacksHeaders I L count
  pub layout : M ≡ record { home = L.home; index = L.index ++ allocated_blocks I L count; bitmap = L.bitmap }
  pub zeroed : All (λ lbn. block_at J lbn ≡ zeros) (allocated_blocks I L count)
  -- no other block changes except the last header of INDEXF.SYS, and the blocks of the storage bitmap
  pub size : length J ≡ length I
  pub elsewhere : (lbn : ℕ) → ¬ IsStorageBitmap L lbn → ¬ IsHeaderPlace L (index_end I L ∷ []) lbn → ¬ Contains (allocated_blocks I L count) lbn → block_at J lbn ≡ block_at I lbn
  -- the other free blocks stay free; the free numbers are the open numbers up to the last one that then has a header
  pub blocks : free_blocks J M ≡ drop count (free_blocks I L)
  pub numbers : free_numbers J M ≡ filter (is_open_number I L (last_number L + count)) (range_with_len 1 (last_number L + count))

-- the draft, with these blocks for INDEXF.SYS, has this effect on the disk
abbrev pub IsDraftOfHeaders : Disk → ℕ → Changes → List ℕ → Type 0
IsDraftOfHeaders D count draft places = IsIndexGrown D.image.now D.layout.now count (applied D.image.now draft) (with_places D.layout.now places)

-- the refusal if it cannot: out of memory, or something that it needs is missing
abbrev pub IsWhyNoHeaders : List (List ℕ) → VolumeLayout → ℕ → Refusal → Type 0
IsWhyNoHeaders I L count f = (f ≡ refusal.NoMemory) ⊎ ((f ≡ refusal.HeadersFull) × LacksHeaders I L count)
