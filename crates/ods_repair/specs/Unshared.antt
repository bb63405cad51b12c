-- The image after runs of a file received blocks of their own.
use Rattle.std.specs.Prelude.{◌≡◌, ◌≢◌, ◌↔◌, ◌⊎◌, ℕ, ◌/◌, ◌<◌, ◌≤◌, true, List, [], length, Some}
use Rattle.ods_base.specs.Image.{block_at}
use Rattle.ods_header.specs.Home.{IsHomeAt}
use Rattle.ods_header.specs.Header.{next_number_of, used_words_of}
use Rattle.ods_space.specs.Layout.{VolumeLayout, header_at, is_in_use, place_of}
use Rattle.ods_space.specs.Chain.{IsChain}
use Rattle.ods_space.specs.Files.{HasBlocks, Holds, IsFile, IsLayoutOf}
use Rattle.ods_space.specs.Free.{is_free_block}
use Rattle.ods_alloc.specs.Extend.{IsStorageBitmap}
use Rattle.ods_mount.specs.declared.fault.MountFault.{MountFault}
use Rattle.ods_mount.specs.declared.fault.MountFault.TheVariants.{DoublyUsed}
use Rattle.ods_mount.specs.Faults.{IsTrueOf, contents_of}
use Rattle.ods_check.specs.declared.finding.Finding.{Finding}
use Rattle.ods_check.specs.Findings.{IsFound, IsHeldByNone, run_of}
use Rattle.ods_check.specs.HeldFree.{IsHeldBesides, IsHeldFree}
use Rattle.ods_amend.specs.Runs.{HasNoRun}
use Rattle.ods_repair.specs.Moved.{IsInRun, run_named}
use Rattle.ods_repair.specs.Repointed.{KeepsFile}
use Rattle.ods_repair.specs.Spare.{IsNotSpare}
use Rattle.ods_repair.specs.declared.fault.RepairFault.{RepairFault}
use Rattle.ods_repair.specs.declared.fault.RepairFault.TheVariants.{HeldFree, NoChain, NoMemory, Reserved, SharedBlock}
use Rattle.ods_repair.specs.declared.unsharing.Unshared.{Unshared}

-- a fault other than a block that is held twice
abbrev pub IsNotShared : MountFault → Type 0
IsNotShared (DoublyUsed m n b) = ⊥
IsNotShared other = Unit {0}

-- block v of a file, counted from 1, is after the first a and at most e
abbrev pub IsBetween : ℕ → ℕ → ℕ → Type 0
IsBetween a e v = (a < v) × (v ≤ e)

-- J is I with blocks a + 1 to e of file n, or some of them, at other LBNs. They are in blocks that were free, and have the same bytes.
pub record Moves (I : List (List ℕ)) (L : VolumeLayout) (n a e : ℕ) (J : List (List ℕ)) : Type 0 where
  pub long : length J ≡ length I
  pub layout : IsLayoutOf J L
  pub homes : (lbn : ℕ) → IsHomeAt I lbn ↔ IsHomeAt J lbn
  -- each other header is unchanged, and the header of the file keeps all facts of the file
  pub in_use : (q : ℕ) → is_in_use J L.home q ≡ is_in_use I L.home q
  pub headers : (q : ℕ) → q ≢ n → header_at J L q ≡ header_at I L q
  pub header : KeepsFile (header_at I L n) (header_at J L n)
  -- each other file has its chain, its blocks and, except for the bookkeeping, its bytes
  pub files : (q : ℕ) → IsFile I L q ↔ IsFile J L q
  pub chains : (q : ℕ) (ms bs : List ℕ) → q ≢ n → IsChain I L q ms bs ↔ IsChain J L q ms bs
  pub has : (q : ℕ) (bs : List ℕ) → q ≢ n → HasBlocks I L q bs ↔ HasBlocks J L q bs
  pub contents : (q : ℕ) (bs : List ℕ) → q ≢ n → q ≢ 1 → q ≢ 2 → HasBlocks I L q bs → contents_of J bs ≡ contents_of I bs
  -- the file has its bytes, and each of its other blocks
  pub own : (bs : List ℕ) → HasBlocks I L n bs → (cs : List ℕ) × HasBlocks J L n cs × (contents_of J cs ≡ contents_of I bs)
  pub held : (v b : ℕ) → Holds J L n v b → Holds I L n v b ⊎ (IsBetween a e v × (is_free_block I L b ≡ true))
  pub stays : (v b : ℕ) → ¬ IsBetween a e v → Holds I L n v b → Holds J L n v b
  -- each free block was free, and no further block is used without a file, except the old blocks of the file
  pub free : (b : ℕ) → is_free_block J L b ≡ true → is_free_block I L b ≡ true
  pub unheld : (b : ℕ) → IsHeldByNone J L b → IsHeldByNone I L b ⊎ ((v : ℕ) × IsBetween a e v × Holds I L n v b)
  pub still_unheld : (b : ℕ) → IsHeldByNone I L b → IsHeldByNone J L b
  -- only the storage bitmap, the first header of the file and blocks that were free change
  pub elsewhere : (b : ℕ) → ¬ IsStorageBitmap L b → place_of L n ≢ Some b → is_free_block I L b ≢ true → block_at J b ≡ block_at I b
  -- no fault is new, and each fault other than a block that is held twice remains
  pub faults : (fault : MountFault) → IsTrueOf J L fault → IsTrueOf I L fault
  pub still : (fault : MountFault) → IsNotShared fault → IsTrueOf I L fault → IsTrueOf J L fault
  -- the findings are as before, except for runs of blocks that no file holds
  pub findings : (finding : Finding) → run_of finding ≡ [] → IsFound I L finding ↔ IsFound J L finding

-- no block of file n is also held by another file, or twice by this one
abbrev pub SharesNone : List (List ℕ) → VolumeLayout → ℕ → Type 0
SharesNone I L n = (m b : ℕ) → ¬ IsTrueOf I L (DoublyUsed m n b)

-- run `at` of the first header of file n has a block that another file also holds, or that the file has twice
abbrev pub SharesRun : List (List ℕ) → VolumeLayout → ℕ → ℕ → Type 0
SharesRun I L n at = (m : ℕ) × (b : ℕ) × IsInRun (run_named I L n at) b × IsTrueOf I L (DoublyUsed m n b)

-- pointer `at` of the first header of file n exists, and no run of free blocks in J is as long as its run
abbrev pub LacksRoom : List (List ℕ) → VolumeLayout → ℕ → List (List ℕ) → Type 0
LacksRoom I L n J = (at : ℕ) × (at < used_words_of (header_at I L n) / 2) × HasNoRun J L (run_named I L n at).count

-- an extension header names more blocks of file n
abbrev pub HasExtension : List (List ℕ) → VolumeLayout → ℕ → Type 0
HasExtension I L n = next_number_of (header_at I L n) ≢ 0

-- Runs of file n with a block that is held twice have blocks of their own, and no other run moves. A run is left if an extension header names it,
-- or if no run of free blocks is as long.
pub record HasOwnRuns (I : List (List ℕ)) (L : VolumeLayout) (n : ℕ) (told : Unshared) (J : List (List ℕ)) : Type 0 where
  pub mapped : ℕ
  pub moves : Moves I L n 0 mapped J
  -- a run without a block that is held twice does not move
  pub apart : (at : ℕ) → at < used_words_of (header_at I L n) / 2 → ¬ SharesRun I L n at → run_named J L n at ≡ run_named I L n at
  -- if nothing is left, no block of the file is held twice
  pub none : told.left ≡ 0 → SharesNone J L n
  -- a run that is left finds no run of free blocks, or an extension header names it
  pub left : told.left ≢ 0 → LacksRoom I L n J ⊎ HasExtension I L n
  -- if no block of the file was held twice, nothing is done
  pub idle : SharesNone I L n → (told.moved ≡ 0) × (told.left ≡ 0) × (J ≡ I)

-- The reason why no run of file n moves. The file is one of the volume's own, or has no whole chain. Its first header, or a block of INDEXF.SYS or
-- BITMAP.SYS, cannot change without another effect. A held block is marked free. Or memory runs out.
abbrev pub IsNotUnshared : List (List ℕ) → VolumeLayout → ℕ → RepairFault → Type 0
IsNotUnshared I L n (Reserved m) = (m ≡ n) × (n ≤ 5)
IsNotUnshared I L n (NoChain m) = (m ≡ n) × ((bs : List ℕ) → ¬ HasBlocks I L n bs)
IsNotUnshared I L n (HeldFree b) = IsHeldFree I L b
IsNotUnshared I L n NoMemory = Unit {0}
IsNotUnshared I L n (SharedBlock m b) = IsNotSpare I L 2 L.bitmap 0 (SharedBlock m b) ⊎ ((m ≡ 1) × (place_of L n ≡ Some b) × IsHeldBesides I L 1 b)
IsNotUnshared I L n other = IsNotSpare I L 2 L.bitmap 0 other ⊎ IsNotSpare I L 1 L.index 0 other
