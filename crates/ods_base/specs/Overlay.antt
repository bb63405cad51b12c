-- The parts of an image over a fixed one: an immutable base, and the changed blocks, each in a seat.
use Rattle.std.specs.Prelude.{◌≡◌, ℕ, zero, suc, ◌-◌, ◌<◌, ◌≤◌, List, [], ◌∷◌, map, length, slice_index, cond, ◌==◌}
use Rattle.std.specs.List.{range_with_len}
use Rattle.ods_base.specs.Block.{zeros}
use Rattle.ods_base.specs.Image.{IsImage, block_at}

-- the block at an LBN: if its seat is 0 or missing, it is the block of the base B; otherwise the seat is its index, from 1, in the own blocks C
abbrev pub overlaid_at : List (List ℕ) → List ℕ → List (List ℕ) → ℕ → List ℕ
overlaid_at B P C lbn = cond (slice_index P lbn == 0) (block_at B lbn) (block_at C (slice_index P lbn - 1))

-- the blocks of the image
unfoldable pub overlaid : List (List ℕ) → List ℕ → List (List ℕ) → List (List ℕ)
overlaid B P C = map (overlaid_at B P C) (range_with_len 0 (length B))

-- the number of seats that are neither 0 nor 1
abbrev pub used : List ℕ → ℕ
used [] = 0
used (zero ∷ ps) = used ps
used (suc zero ∷ ps) = used ps
used (suc (suc p) ∷ ps) = suc (used ps)

-- Seat 1 is a block of zeros. A block that became zeros before it had another seat has seat 1. Each other changed block has its own seat, and there
-- are no other seats.
pub record IsOverlay (size : ℕ) (P : List ℕ) (C : List (List ℕ)) : Type 0 where
  pub few : length P ≤ size
  pub first : block_at C 0 ≡ zeros
  pub count : length C ≡ suc (used P)
  pub within : (k : ℕ) → slice_index P k ≤ length C
  pub apart : (i k : ℕ) → slice_index P i ≡ slice_index P k → 1 < slice_index P i → i ≡ k

-- the seats are extended with zeros, to `size` seats or to as many as before
pub record HasReached (size : ℕ) (P Q : List ℕ) : Type 0 where
  pub few : (n : ℕ) → size ≤ n → length P ≤ n → length Q ≤ n
  pub count : used Q ≡ used P
  pub same : (k : ℕ) → slice_index Q k ≡ slice_index P k

-- the invariant of an image over a fixed one: it has reserved room to change each block, and for the block of zeros
pub record IsHeld (B : List (List ℕ)) (P : List ℕ) (C : List (List ℕ)) (seats own : ℕ) : Type 0 where
  pub image : IsImage (overlaid B P C)
  pub overlay : IsOverlay (length B) P C
  pub seat_room : length B ≤ seats
  pub room : length B < own
