-- Laws about the offsets of sectors, and about containers.
use Rattle.std.specs.Prelude.{◌≡◌, ◌≢◌, ℕ, ◌+◌, ◌*◌, ◌/◌, ◌%◌, ◌<◌, ◌≤◌, List, length, take}
use Rattle.ods_order.specs.declared.order.Order.{Order}
use Rattle.ods_order.specs.Order.{sector_size, sector_count, block_count, container_size, first_track, floppy_slot, rx50_slot, place, IsOfSector}
use Rattle.ods_order.specs.Volumes.{IsLaidOut, volume_of}

-- How the `count` sectors of a volume are stored on tracks of k sectors each. The volume begins on the second track, and continues on the next track
-- after each k sectors. On a track the next sector is two slots further, and in the middle of the track three slots further. The same sector of the
-- next track is `turn` slots further.
pub record IsInterleaved (count k tracks turn : ℕ) (slot : ℕ → ℕ) : Type 0 where
  pub start : slot 0 ≡ k
  pub track : (n : ℕ) → n + 1 < count → (n + 1) % k ≢ 0 → slot (n + 1) / k ≡ slot n / k
  pub every_second : (n : ℕ) → n + 1 < count → (n + 1) % k ≢ 0 → 2 * ((n + 1) % k) ≢ k → slot (n + 1) % k ≡ (slot n + 2) % k
  pub middle : (n : ℕ) → n + 1 < count → 2 * ((n + 1) % k) ≡ k → slot (n + 1) % k ≡ (slot n + 3) % k
  pub next_track : (n : ℕ) → n + k < count → slot (n + k) / k ≡ (slot n / k + 1) % tracks
  pub skew : (n : ℕ) → n + k < count → slot (n + k) % k ≡ (slot n + turn) % k

-- RX01 and RX02 have 77 tracks of 26 sectors and a turn of 6; RX50 has 80 tracks of 10 sectors and a turn of 2
abbrev pub SectorsAreInterleaved : Type 0
SectorsAreInterleaved = IsInterleaved 1976 26 77 6 floppy_slot × IsInterleaved 800 10 80 2 rx50_slot

-- each sector of the volume is inside the container
abbrev pub PlacesLieInside : Type 0
PlacesLieInside = (order : Order) (n : ℕ) → n < sector_count order → place order n + sector_size order ≤ container_size order

-- no byte belongs to two sectors
abbrev pub PlacesAreApart : Type 0
PlacesAreApart = (order : Order) (n m i : ℕ) → n < sector_count order → m < sector_count order →
    IsOfSector order n i → IsOfSector order m i → n ≡ m

-- each byte after the unused first track belongs to a sector
abbrev pub EachByteHasASector : Type 0
EachByteHasASector = (order : Order) (i : ℕ) → first_track order ≤ i → i < container_size order →
    (n : ℕ) × (n < sector_count order) × IsOfSector order n i

-- a volume of the right size can be laid out in any container
abbrev pub CanBeLaidOut : Type 0
CanBeLaidOut = (order : Order) (old volume : List ℕ) → length old ≡ container_size order → length volume ≡ 512 * block_count order →
    (new : List ℕ) × IsLaidOut order old volume new

-- a volume can be laid out in a container in one way only
abbrev pub LaidOutInOneWay : Type 0
LaidOutInOneWay = (order : Order) (old volume new other : List ℕ) → length old ≡ container_size order →
    IsLaidOut order old volume new → IsLaidOut order old volume other → new ≡ other

-- a container is unchanged if its own volume is laid out in it
abbrev pub OwnVolumeChangesNothing : Type 0
OwnVolumeChangesNothing = (order : Order) (old new : List ℕ) → length old ≡ container_size order →
    IsLaidOut order old (volume_of order old) new → new ≡ old

-- the track that is not part of the volume is unchanged
abbrev pub FirstTrackStays : Type 0
FirstTrackStays = (order : Order) (old volume new : List ℕ) → length old ≡ container_size order →
    IsLaidOut order old volume new → take (first_track order) new ≡ take (first_track order) old
