-- The places of sectors, by arithmetic: no two share a byte, and none is left out.
use Rattle.std.proofs.Common.{◌≡◌, ◌≢◌, ℕ, ◌+◌, ◌-◌, ◌*◌, ◌/◌, ◌%◌, ◌<◌, ◌≤◌, ◌⊎◌, max, inl, inr, refl, arith}
use Rattle.std.proofs.lemmas.Bool.{cases_lt}
use Rattle.ods_order.specs.declared.order.Order.{Order}
use Rattle.ods_order.specs.declared.order.Order.TheVariants.{Rx01, Rx02, Rx50}
use Rattle.ods_order.specs.Order.{sector_size, sector_count, block_count, container_size, first_track, floppy_slot, rx50_slot, place, IsOfSector, IsBeside}

-- sectors of one track of an RX01 or RX02 that stand in one place
one_floppy_sector : (s r t : ℕ) → s < 26 → r < 26 → (2 * s + s / 13 + 6 * t) % 26 ≡ (2 * r + r / 13 + 6 * t) % 26 → s ≡ r
one_floppy_sector s r t s_low r_low same = omega arith

-- two sectors of an RX01 or RX02 that do
one_floppy_slot : (n m : ℕ) → floppy_slot n ≡ floppy_slot m → n ≡ m
one_floppy_slot n m same =
    let track : n / 26 ≡ m / 26 = omega arith in
    let turn : (2 * (n % 26) + n % 26 / 13 + 6 * (n / 26)) % 26 ≡ (2 * (m % 26) + m % 26 / 13 + 6 * (n / 26)) % 26 = omega arith in
    let sector = one_floppy_sector (n % 26) (m % 26) (n / 26) (omega arith) (omega arith) turn in
    omega arith

-- sectors of one track of an RX50 that stand in one place
one_rx50_sector : (s r t : ℕ) → s < 10 → r < 10 → (2 * s + s / 5 + 2 * t) % 10 ≡ (2 * r + r / 5 + 2 * t) % 10 → s ≡ r
one_rx50_sector s r t s_low r_low same = omega arith

-- two sectors of an RX50 that do
one_rx50_slot : (n m : ℕ) → n < 800 → m < 800 → rx50_slot n ≡ rx50_slot m → n ≡ m
one_rx50_slot n m n_low m_low same =
    let turned : (n / 10 + 1) % 80 ≡ (m / 10 + 1) % 80 = omega arith in
    let track : n / 10 ≡ m / 10 = omega arith in
    let turn : (2 * (n % 10) + n % 10 / 5 + 2 * (n / 10)) % 10 ≡ (2 * (m % 10) + m % 10 / 5 + 2 * (n / 10)) % 10 = omega arith in
    let sector = one_rx50_sector (n % 10) (m % 10) (n / 10) (omega arith) (omega arith) turn in
    omega arith

-- no byte is of two sectors
pub apart : (order : Order) (n m i : ℕ) → n < sector_count order → m < sector_count order → IsOfSector order n i → IsOfSector order m i → n ≡ m
apart Rx01 n m i n_low m_low one other = one_floppy_slot n m (omega arith)
apart Rx02 n m i n_low m_low one other = one_floppy_slot n m (omega arith)
apart Rx50 n m i n_low m_low one other = one_rx50_slot n m n_low m_low (omega arith)

-- of two sectors one ends before the other begins
pub one_before_other : (order : Order) (n m : ℕ) → n < sector_count order → m < sector_count order → n ≢ m →
    (place order m + sector_size order ≤ place order n) ⊎ (place order n + sector_size order ≤ place order m)
one_before_other order n m n_low m_low other = elim (cases_lt (place order n) (place order m + sector_size order)) [
  | inr first ↦ inl first
  | inl begun ↦ elim (cases_lt (place order m) (place order n + sector_size order)) [
    | inr second ↦ inr second
    | inl begun_too ↦
        absurd (other (apart order n m (max (place order n) (place order m)) n_low m_low (omega arith, omega arith) (omega arith, omega arith)))
  ]
]

-- each sector lies inside the container
pub inside : (order : Order) (n : ℕ) → n < sector_count order → place order n + sector_size order ≤ container_size order
inside Rx01 n low = omega arith
inside Rx02 n low = omega arith
inside Rx50 n low = omega arith

-- and behind the track that is not of the volume
behind_first : (order : Order) (n : ℕ) → n < sector_count order → first_track order ≤ place order n
behind_first Rx01 n low = omega arith
behind_first Rx02 n low = omega arith
behind_first Rx50 n low = omega arith

-- so no byte of that track is of a sector
pub first_beside : (order : Order) (i : ℕ) → i < first_track order → IsBeside order i
first_beside order i low n inside is =
    let behind = behind_first order n inside in
    omega (arith, is.0)

pub first_inside : (order : Order) → first_track order ≤ container_size order
first_inside Rx01 = omega arith
first_inside Rx02 = omega arith
first_inside Rx50 = omega arith

-- the sectors of a volume are its blocks
pub sectors_are_blocks : (order : Order) → sector_size order * sector_count order ≡ 512 * block_count order
sectors_are_blocks Rx01 = refl
sectors_are_blocks Rx02 = refl
sectors_are_blocks Rx50 = refl

-- sector n of the volume ends within it, and within the block where it begins
pub record FallsIntoBlock (order : Order) (n : ℕ) : Type 0 where
  pub few : sector_size order * n ≤ 505856
  pub whole : sector_size order * n + sector_size order ≤ 512 * block_count order
  pub block : sector_size order * n / 512 < block_count order
  pub within : sector_size order * n % 512 + sector_size order ≤ 512

pub falls_into_block : (order : Order) (n : ℕ) → n < sector_count order → FallsIntoBlock order n
falls_into_block Rx01 n low = record { few = omega arith; whole = omega arith; block = omega arith; within = omega arith }
falls_into_block Rx02 n low = record { few = omega arith; whole = omega arith; block = omega arith; within = omega arith }
falls_into_block Rx50 n low = record { few = omega arith; whole = omega arith; block = omega arith; within = omega arith }

-- sector k of block lbn, as one of the volume
pub record IsSectorOfBlock (order : Order) (lbn k : ℕ) : Type 0 where
  pub low : 512 / sector_size order * lbn + k < sector_count order
  pub at : sector_size order * (512 / sector_size order * lbn + k) ≡ 512 * lbn + sector_size order * k
  pub fits : sector_size order * k + sector_size order ≤ 512

pub sector_of_block : (order : Order) (lbn k : ℕ) → lbn < block_count order → k < 512 / sector_size order → IsSectorOfBlock order lbn k
sector_of_block Rx01 lbn k low few = record { low = omega arith; at = omega arith; fits = omega arith }
sector_of_block Rx02 lbn k low few = record { low = omega arith; at = omega arith; fits = omega arith }
sector_of_block Rx50 lbn k low few = record { low = omega arith; at = omega arith; fits = omega arith }

-- a container has more bytes than its volume, or as many
pub volume_inside : (order : Order) → 512 * block_count order ≤ container_size order
volume_inside Rx01 = omega arith
volume_inside Rx02 = omega arith
volume_inside Rx50 = omega arith

-- the sectors of a block are all of it
pub block_is_whole : (order : Order) → sector_size order * (512 / sector_size order) ≡ 512
block_is_whole Rx01 = refl
block_is_whole Rx02 = refl
block_is_whole Rx50 = refl

-- the sector of a track that stands at p
floppy_turned : (p t x s : ℕ) → p < 26 → x ≡ (p + 20 * t) % 26 → s ≡ x / 2 + 13 * (x % 2) → (2 * s + s / 13 + 6 * t) % 26 ≡ p
floppy_turned p t x s low back is = omega arith

-- the sector of the volume that stands in this place of an RX01 or RX02
floppy_filled : (q : ℕ) → 26 ≤ q → q < 2002 → (n : ℕ) × (n < 1976) × (floppy_slot n ≡ q)
floppy_filled q behind low =
    let t : ℕ = q / 26 - 1 in
    let x : ℕ = (q % 26 + 20 * t) % 26 in
    let s : ℕ = x / 2 + 13 * (x % 2) in
    let n : ℕ = 26 * t + s in
    let turned = floppy_turned (q % 26) t x s (omega arith) refl refl in
    let few : s < 26 = omega arith in
    let track : n / 26 ≡ t = omega arith in
    let sector : n % 26 ≡ s = omega arith in
    (n, omega arith, omega arith)

rx50_turned : (p t x s : ℕ) → p < 10 → x ≡ (p + 8 * t) % 10 → s ≡ x / 2 + 5 * (x % 2) → (2 * s + s / 5 + 2 * t) % 10 ≡ p
rx50_turned p t x s low back is = omega arith

-- that of an RX50
rx50_filled : (q : ℕ) → q < 800 → (n : ℕ) × (n < 800) × (rx50_slot n ≡ q)
rx50_filled q low =
    let t : ℕ = (q / 10 + 79) % 80 in
    let x : ℕ = (q % 10 + 8 * t) % 10 in
    let s : ℕ = x / 2 + 5 * (x % 2) in
    let n : ℕ = 10 * t + s in
    let turned = rx50_turned (q % 10) t x s (omega arith) refl refl in
    let few : s < 10 = omega arith in
    let track : n / 10 ≡ t = omega arith in
    let sector : n % 10 ≡ s = omega arith in
    (n, omega arith, omega arith)

-- each byte behind the track that is not of the volume is of a sector
pub filled : (order : Order) (i : ℕ) → first_track order ≤ i → i < container_size order → (n : ℕ) × (n < sector_count order) × IsOfSector order n i
filled Rx01 i behind low =
    let f = floppy_filled (i / 128) (omega arith) (omega arith) in
    let is = f.2 in
    (f.0, f.1, (omega arith, omega arith))
filled Rx02 i behind low =
    let f = floppy_filled (i / 256) (omega arith) (omega arith) in
    let is = f.2 in
    (f.0, f.1, (omega arith, omega arith))
filled Rx50 i behind low =
    let f = rx50_filled (i / 512) (omega arith) in
    let is = f.2 in
    (f.0, f.1, (omega arith, omega arith))
