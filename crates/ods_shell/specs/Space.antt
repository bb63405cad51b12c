-- The usage of a volume.
use Rattle.std.specs.Prelude.{◌≡◌, ◌↔◌, ℕ, ◌+◌, ◌<◌, ◌≤◌, ◌-◌, ◌⊎◌, true, false, List, length}
use Rattle.std.specs.List.{filter, range_with_len}
use Rattle.ods_space.specs.Layout.{VolumeLayout, is_in_use}
use Rattle.ods_space.specs.Free.{is_free_block, free_blocks, free_numbers}
use Rattle.ods_shell.specs.declared.space.Space.{Space}

-- there are n consecutive free blocks
abbrev pub HasFreeRun : List (List ℕ) → VolumeLayout → ℕ → Type 0
HasFreeRun I L n = (from : ℕ) × ((k : ℕ) → k < n → is_free_block I L (from + k) ≡ true)

-- exactly n consecutive free blocks end just before this LBN
abbrev pub EndsRun : List (List ℕ) → VolumeLayout → ℕ → ℕ → Type 0
EndsRun I L at n = (from : ℕ) × (from + n ≡ at) × ((k : ℕ) → k < n → is_free_block I L (from + k) ≡ true) × ((from ≡ 0) ⊎ (is_free_block I L (from - 1) ≡ false))

-- This is the usage of a volume: of its blocks, and of its file numbers.
pub record IsSpaceOf (I : List (List ℕ)) (L : VolumeLayout) (space : Space) : Type 0 where
  pub all : space.blocks ≡ length I
  pub unused : space.free ≡ length (free_blocks I L)
  pub run : (n : ℕ) → (n ≤ space.longest) ↔ HasFreeRun I L n
  pub in_use : space.numbers ≡ length (filter (is_in_use I L.home) (range_with_len 1 L.home.max_files))
  pub at_hand : space.ready ≡ length (free_numbers I L)
  pub greatest : space.most ≡ L.home.max_files
