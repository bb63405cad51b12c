-- The facts of the earlier files: the blocks that they hold, and the files that hold each block.
use Rattle.std.specs.Prelude.{◌≡◌, ℕ, ◌*◌, ◌<◌, ◌≤◌, List, [], length, map, slice_index, slice_index_or, Vec}
use Rattle.std.specs.List.{Contains}
use Rattle.std.specs.declared.alloc.Global.{Global}
use Rattle.ods_space.specs.Layout.{VolumeLayout}
use Rattle.ods_check.specs.Findings.{HasBlock}
use Rattle.ods_check.specs.Sets.{IsSetOf}
use Rattle.ods_check.specs.declared.before.Before.{Before}

-- the files that are noted for block b
abbrev pub noted : List (Vec ℕ Global) → ℕ → List ℕ
noted lists b = slice_index_or (map (λ list. list.items) lists) b []

-- each file below n is noted for each block that it holds
abbrev pub AreNoted : List (List ℕ) → VolumeLayout → ℕ → List (Vec ℕ Global) → Type 0
AreNoted I L n lists = (m b : ℕ) → m < n → HasBlock I L m b → Contains (noted lists b) m

-- a number for each block of the image, at most `most`
pub record IsStamped (I : List (List ℕ)) (stamps : List ℕ) (most : ℕ) : Type 0 where
  pub size : length stamps ≡ length I
  pub low : (i : ℕ) → slice_index stamps i ≤ most

-- These are the blocks that the files below n hold. Unless the kept lines are full, each file is noted for each block that it holds.
pub record IsBefore (I : List (List ℕ)) (L : VolumeLayout) (Full : Type 0) (n : ℕ) (before : Before) : Type 0 where
  pub held : IsSetOf (λ b. (m : ℕ) × (m < n) × HasBlock I L m b) before.held
  pub room : length I ≤ 64 * length before.held
  pub noted : ¬ Full → AreNoted I L n before.holders.items
  pub lists : length before.holders.items ≡ length I
  pub stamps : IsStamped I before.stamps.items (65536 * n)
