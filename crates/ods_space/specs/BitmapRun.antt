-- The number of contiguous blocks of BITMAP.SYS.
use Rattle.std.specs.Prelude.{◌≡◌, ◌≢◌, ℕ, ◌+◌, ◌-◌, ◌<◌, ◌≤◌, List, length, slice_index}

-- from the first block with bits on, after the storage control block, `run` blocks are contiguous, and the next block is not
pub record IsBitmapRun (bitmap : List ℕ) (run : ℕ) : Type 0 where
  pub within : run ≤ length bitmap - 1
  pub places : (j : ℕ) → j < run → slice_index bitmap (j + 1) ≡ slice_index bitmap 1 + j
  pub longest : run < length bitmap - 1 → slice_index bitmap (run + 1) ≢ slice_index bitmap 1 + run
