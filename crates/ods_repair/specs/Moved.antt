-- A run of a file that receives blocks of its own: the condition for it, and its effect on the image.
use Rattle.std.specs.Prelude.{◌≡◌, ◌≢◌, ◌⊎◌, ℕ, ◌+◌, ◌<◌, ◌≤◌, false, if◌then◌else◌, IsTrue, List, length, Some}
use Rattle.std.specs.List.{Contains, range_with_len}
use Rattle.ods_base.specs.Image.{block_at}
use Rattle.ods_header.specs.declared.header.Run.{Run}
use Rattle.ods_header.specs.Header.{run_at}
use Rattle.ods_space.specs.Layout.{VolumeLayout, header_at, place_of}
use Rattle.ods_space.specs.Files.{HasBlocks, IsLayoutOf}
use Rattle.ods_space.specs.Free.{is_covered, storage_bit}
use Rattle.ods_alloc.specs.Extend.{IsStorageBitmap, is_one_of}
use Rattle.ods_mount.specs.declared.fault.MountFault.TheVariants.{MarkedFree}
use Rattle.ods_mount.specs.Faults.{HasBadIndex, IsTrueOf}
use Rattle.ods_check.specs.HeldFree.{IsHeldBesides}
use Rattle.ods_repair.specs.Repointed.{IsRepointed}
use Rattle.ods_repair.specs.Spare.{AreOnce, AreSpare}

-- the run that pointer `at` of the first header of file n names
abbrev pub run_named : List (List ℕ) → VolumeLayout → ℕ → ℕ → Run
run_named I L n at = run_at (header_at I L n) at

-- the LBN is in the run
abbrev pub IsInRun : Run → ℕ → Type 0
IsInRun r b = (r.lbn ≤ b) × (b < r.lbn + r.count)

-- as many blocks, from LBN `to` on
abbrev pub new_run : List (List ℕ) → VolumeLayout → ℕ → ℕ → ℕ → List ℕ
new_run I L n at to = range_with_len to (run_named I L n at).count

-- The blocks J are the blocks I with pointer `at` of file n at LBN `to`: the blocks there have the bytes of the old ones and are marked used, and
-- nothing else changes.
pub record IsMoved (I : List (List ℕ)) (L : VolumeLayout) (n at to : ℕ) (J : List (List ℕ)) : Type 0 where
  pub long : length J ≡ length I
  pub header : IsRepointed (header_at I L n) at to (header_at J L n)
  pub copied : (k : ℕ) → k < (run_named I L n at).count → block_at J (to + k) ≡ block_at I ((run_named I L n at).lbn + k)
  pub bits : (b : ℕ) → IsTrue (is_covered L b) → storage_bit J L b ≡ (if is_one_of (new_run I L n at to) b then false else storage_bit I L b)
  pub elsewhere : (b : ℕ) → ¬ IsStorageBitmap L b → place_of L n ≢ Some b → ¬ Contains (new_run I L n at to) b → block_at J b ≡ block_at I b

-- J is I with the `count` blocks from `from` on copied to LBN `to` and after it
pub record IsCopied (I : List (List ℕ)) (from to count : ℕ) (J : List (List ℕ)) : Type 0 where
  pub long : length J ≡ length I
  pub copied : (k : ℕ) → k < count → block_at J (to + k) ≡ block_at I (from + k)
  pub others : (b : ℕ) → (b < to) ⊎ (to + count ≤ b) → block_at J b ≡ block_at I b

-- Runs of file n can move. It is not a reserved file, and has a whole chain. Its first header, the storage bitmap and the blocks of INDEXF.SYS can
-- change without another effect, the index is good, and no block that a file holds is marked free.
pub record CanMove (I : List (List ℕ)) (L : VolumeLayout) (n : ℕ) : Type 0 where
  pub layout : IsLayoutOf I L
  pub other : 5 < n
  pub blocks : List ℕ
  pub has : HasBlocks I L n blocks
  pub index : ¬ HasBadIndex I L
  pub once : AreOnce L.index
  pub bitmap : AreSpare I L 2 L.bitmap 0
  pub header : (x : ℕ) → place_of L n ≡ Some x → ¬ IsHeldBesides I L 1 x
  pub used : (m b : ℕ) → ¬ IsTrueOf I L (MarkedFree m b)
