-- Runs of free blocks, which are consecutive on the disk.
use Rattle.std.specs.Prelude.{◌≡◌, ℕ, ◌+◌, ◌<◌, ◌≤◌, true, List}
use Rattle.std.specs.List.{filter, range_with_len}
use Rattle.ods_space.specs.Free.{is_free_block}
use Rattle.ods_space.specs.Layout.{VolumeLayout}

-- the n blocks from this LBN on are free
abbrev pub IsFreeRun : List (List ℕ) → VolumeLayout → ℕ → ℕ → Type 0
IsFreeRun I L lbn n = (x : ℕ) → lbn ≤ x → x < lbn + n → is_free_block I L x ≡ true

-- the lowest run of n free blocks begins at this LBN
pub record IsLowestRun (I : List (List ℕ)) (L : VolumeLayout) (n lbn : ℕ) : Type 0 where
  pub free : IsFreeRun I L lbn n
  pub least : (k : ℕ) → k < lbn → ¬ IsFreeRun I L k n

-- no n consecutive blocks are free
abbrev pub HasNoRun : List (List ℕ) → VolumeLayout → ℕ → Type 0
HasNoRun I L n = (lbn : ℕ) → ¬ IsFreeRun I L lbn n

-- the free blocks below this LBN, ascending
abbrev pub free_below : List (List ℕ) → VolumeLayout → ℕ → List ℕ
free_below I L lbn = filter (is_free_block I L) (range_with_len 0 lbn)
