-- The volume in a container, and a container with another volume.
use Rattle.std.specs.Prelude.{◌≡◌, ◌≢◌, ℕ, ◌*◌, List, length, take, drop, slice_index}
use Rattle.std.specs.List.{flat_map, range_with_len}
use Rattle.ods_base.specs.Image.{IsImage, image_bytes}
use Rattle.ods_order.specs.declared.order.Order.{Order}
use Rattle.ods_order.specs.declared.fault.OrderFault.{OrderFault}
use Rattle.ods_order.specs.declared.fault.OrderFault.TheVariants.{OtherSize, NoMemory}
use Rattle.ods_order.specs.Order.{sector_size, sector_count, block_count, container_size, place, IsBeside}

-- the bytes of sector n of the volume in the container
abbrev pub sector_at : Order → List ℕ → ℕ → List ℕ
sector_at order container n = take (sector_size order) (drop (place order n) container)

-- the bytes of sector n in the bytes of the volume
abbrev pub sector_of : Order → List ℕ → ℕ → List ℕ
sector_of order volume n = take (sector_size order) (drop (sector_size order * n) volume)

-- the bytes of the volume: its sectors in order
unfoldable pub volume_of : Order → List ℕ → List ℕ
volume_of order container = flat_map (sector_at order container) (range_with_len 0 (sector_count order))

-- block lbn of these bytes
abbrev pub block_in : List ℕ → ℕ → List ℕ
block_in bytes lbn = take 512 (drop (512 * lbn) bytes)

-- the container now has this volume, and every byte outside the volume is unchanged
pub record IsLaidOut (order : Order) (old volume new : List ℕ) : Type 0 where
  pub size : length new ≡ length old
  pub holds : volume_of order new ≡ volume
  pub beside : (i : ℕ) → IsBeside order i → slice_index new i ≡ slice_index old i

-- the image is the volume in this container
pub record IsVolumeOf (order : Order) (container : List ℕ) (I : List (List ℕ)) : Type 0 where
  pub whole : length container ≡ container_size order
  pub image : IsImage I
  pub count : length I ≡ block_count order
  pub bytes : image_bytes I ≡ volume_of order container

-- why there is no volume in these bytes
abbrev pub IsNoVolume : Order → List ℕ → OrderFault → Type 0
IsNoVolume order bytes OtherSize = length bytes ≢ container_size order
IsNoVolume order bytes NoMemory = Unit {0}
