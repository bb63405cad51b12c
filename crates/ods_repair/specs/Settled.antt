-- The result for one run of a file, and the notes on held blocks.
use Rattle.std.specs.Prelude.{◌≡◌, ◌≢◌, ◌⊎◌, ◌↔◌, ℕ, ◌*◌, ◌/◌, ◌<◌, ◌≤◌, true, false, List, length, map, slice_get, Some}
use Rattle.std.specs.List.{flat_map, range_with_len}
use Rattle.ods_amend.specs.Runs.{HasNoRun, IsFreeRun}
use Rattle.ods_header.specs.declared.header.Run.{Run}
use Rattle.ods_mount.specs.Tables.{has}
use Rattle.ods_header.specs.Header.{run_at, run_blocks, used_words_of}
use Rattle.ods_space.specs.Layout.{VolumeLayout, header_at}
use Rattle.ods_space.specs.Files.{Holds}
use Rattle.ods_check.specs.HeldFree.{IsHeldBesides}
use Rattle.ods_repair.specs.Moved.{CanMove, IsInRun, IsMoved, run_named}
use Rattle.ods_repair.specs.Unshared.{LacksRoom, Moves, SharesNone, SharesRun}
use Rattle.ods_repair.specs.declared.unsharing.Unshared.{Unshared}
use Rattle.ods_repair.specs.declared.unsharing.Outcome.{Outcome}
use Rattle.ods_repair.specs.declared.unsharing.Outcome.TheVariants.{Stays, Moved, Left}

-- the set contains the blocks of the run, and its former members
abbrev pub HasRunToo : List ℕ → List ℕ → Run → Type 0
HasRunToo new old r = (b : ℕ) → (has new b ≡ true) ↔ ((has old b ≡ true) ⊎ IsInRun r b)

-- a block of the run is in the set
abbrev pub MeetsRun : List ℕ → Run → Type 0
MeetsRun set r = (b : ℕ) × IsInRun r b × (has set b ≡ true)

-- no block of the run is in the set
abbrev pub MissesRun : List ℕ → Run → Type 0
MissesRun set r = (b : ℕ) → IsInRun r b → has set b ≡ false

-- Run `at` of file n stays if none of its blocks is in the set. Otherwise it moves to a run of free blocks, or finds none. Afterwards the set has
-- its blocks.
abbrev pub IsSettled : List (List ℕ) → VolumeLayout → ℕ → ℕ → List ℕ → Outcome → List (List ℕ) → List ℕ → Type 0
IsSettled I L n at old Stays J new = (J ≡ I) × MissesRun old (run_named I L n at) × HasRunToo new old (run_named I L n at)
IsSettled I L n at old Left J new = (J ≡ I) × MeetsRun old (run_named I L n at) × HasNoRun I L (run_named I L n at).count × HasRunToo new old (run_named I L n at)
IsSettled I L n at old Moved J new =
    (to : ℕ) × MeetsRun old (run_named I L n at) × IsFreeRun I L to (run_named I L n at).count × IsMoved I L n at to J
    × HasRunToo new old (record { lbn = to; count = (run_named I L n at).count })

-- the blocks that the first `at` pointers of a header name
abbrev pub blocks_named : List ℕ → ℕ → List ℕ
blocks_named b at = flat_map run_blocks (map (run_at b) (range_with_len 0 at))

-- the result for a run in the report
abbrev pub IsToldOf : Unshared → Outcome → Unshared → Type 0
IsToldOf old Stays new = new ≡ old
IsToldOf old Moved new = (new.moved ≢ 0) × (new.left ≡ old.left)
IsToldOf old Left new = (new.moved ≡ old.moved) × (new.left ≢ 0)

-- The first `at` runs of file n are settled, and have `mapped` blocks. The set has their blocks, and the blocks that other files hold.
pub record AreSettled (I : List (List ℕ)) (L : VolumeLayout) (n at : ℕ) (told : Unshared) (mapped : ℕ) (seen : List ℕ) (J : List (List ℕ)) : Type 0 where
  pub can : CanMove J L n
  pub room : length J ≤ 64 * length seen
  pub size : mapped ≡ length (blocks_named (header_at J L n) at)
  pub moves : Moves I L n 0 mapped J
  -- each pointer names as many blocks as before
  pub used : used_words_of (header_at J L n) ≡ used_words_of (header_at I L n)
  pub counts : (k : ℕ) → k < used_words_of (header_at I L n) / 2 → (run_named J L n k).count ≡ (run_named I L n k).count
  -- the later runs are unchanged, and so is each earlier run without a block that is held twice
  pub later : (k : ℕ) → at ≤ k → k < used_words_of (header_at I L n) / 2 → run_named J L n k ≡ run_named I L n k
  pub apart : (k : ℕ) → k < used_words_of (header_at I L n) / 2 → ¬ SharesRun I L n k → run_named J L n k ≡ run_named I L n k
  -- the members of the set
  pub others : (b : ℕ) → IsHeldBesides J L n b → has seen b ≡ true
  pub own : (v b : ℕ) → v ≤ mapped → Holds J L n v b → has seen b ≡ true
  pub only : (b : ℕ) → has seen b ≡ true → IsHeldBesides J L n b ⊎ ((v : ℕ) × (v ≤ mapped) × Holds J L n v b)
  -- if none is left, no block of these runs is held by another file, or twice
  pub alone : told.left ≡ 0 → (v b : ℕ) → v ≤ mapped → Holds J L n v b → (¬ IsHeldBesides J L n b) × ((w : ℕ) → w ≤ mapped → Holds J L n w b → w ≡ v)
  pub left : told.left ≢ 0 → LacksRoom I L n J
  pub idle : SharesNone I L n → (told.moved ≡ 0) × (told.left ≡ 0) × (J ≡ I)

-- from this index on, each of these blocks is new: it is not in the set, and no other of them is the same
abbrev pub AreNewFrom : List ℕ → ℕ → List ℕ → Type 0
AreNewFrom blocks first set = (i b : ℕ) → first ≤ i → slice_get blocks i ≡ Some b → (has set b ≡ false) × ((j : ℕ) → first ≤ j → slice_get blocks j ≡ Some b → i ≡ j)

-- one of these blocks is in the set, or occurs earlier
abbrev pub MeetsFrom : List ℕ → ℕ → List ℕ → Type 0
MeetsFrom blocks first set = (i : ℕ) × (b : ℕ) × (first ≤ i) × (slice_get blocks i ≡ Some b) × ((has set b ≡ true) ⊎ ((j : ℕ) × (first ≤ j) × (j < i) × (slice_get blocks j ≡ Some b)))

-- the second set has exactly the numbers of the first one below `end`
pub record IsCopyTo (set copy : List ℕ) (end : ℕ) : Type 0 where
  pub same : (b : ℕ) → b < end → has copy b ≡ has set b
  pub none : (b : ℕ) → end ≤ b → has copy b ≡ false
