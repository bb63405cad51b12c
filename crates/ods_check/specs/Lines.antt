-- The meaning of each line in a list of faults.
use Rattle.std.specs.Prelude.{◌≡◌, ◌≢◌, ℕ, ◌+◌, ◌<◌, ◌≤◌, ◌==◌, if◌then◌else◌, IsTrue, List, length, slice_get, Option, Some, None}
use Rattle.std.specs.List.{Contains}
use Rattle.ods_header.specs.Home.{IsHomeAt, IsHomePlace}
use Rattle.ods_space.specs.Layout.{VolumeLayout}
use Rattle.ods_space.specs.Files.{Holds, IsLayoutOf}
use Rattle.ods_space.specs.Free.{is_free_block}
use Rattle.ods_mount.specs.declared.fault.MountFault.{MountFault}
use Rattle.ods_mount.specs.declared.fault.MountFault.TheVariants.{NoHome, UnsupportedMap, BadChain, OutsideVolume, BadIndex, BadStorageMap, BadMaster, DoublyUsed, MarkedFree, BadDirectory, DuplicateName, NoMemory}
use Rattle.ods_mount.specs.Faults.{IsTrueOf, FaultIsTrue}
use Rattle.ods_mount.specs.Checks.{IsElsewhere}
use Rattle.ods_check.specs.Lists.{AreDistinct}
use Rattle.ods_check.specs.declared.fault_line.IndexFault.{IndexFault}
use Rattle.ods_check.specs.declared.fault_line.IndexFault.TheVariants.{TooShort, Misplaced, OtherHome, FreePlace, HeldPlace}
use Rattle.ods_check.specs.declared.fault_line.FaultLine.{FaultLine}
use Rattle.ods_check.specs.declared.fault_line.FaultLine.TheVariants.{Plain, Shared, Index}

-- the fault of a line, as the mount reports it
abbrev pub fault_of : FaultLine → MountFault
fault_of (Plain fault) = fault
fault_of (Shared m n lbn count) = DoublyUsed m n lbn
fault_of (Index why) = BadIndex

-- Files m and n share LBN b: both hold it, or, if m is n, the file holds it twice.
abbrev pub Share : List (List ℕ) → VolumeLayout → ℕ → ℕ → ℕ → Type 0
Share I L m n b = IsTrueOf I L (DoublyUsed m n b)

-- these are all blocks that files m and n share, each once
pub record AreShared (I : List (List ℕ)) (L : VolumeLayout) (m n : ℕ) (blocks : List ℕ) : Type 0 where
  pub each : (i b : ℕ) → slice_get blocks i ≡ Some b → Share I L m n b
  pub all : (b : ℕ) → Share I L m n b → Contains blocks b
  pub once : AreDistinct blocks

-- Files m and n share `count` blocks, and LBN b is the first of them in file m.
pub record AreSharing (I : List (List ℕ)) (L : VolumeLayout) (m n b count : ℕ) : Type 0 where
  pub shared : Share I L m n b
  pub vbn : ℕ
  pub held : Holds I L m vbn b
  pub first : (v c : ℕ) → Holds I L m v c → Share I L m n c → vbn ≤ v
  pub blocks : List ℕ
  pub are : AreShared I L m n blocks
  pub size : count ≡ length blocks

-- LBN k is a location of a home block below the home block in force
abbrev pub IsLowerPlace : List (List ℕ) → ℕ → Type 0
IsLowerPlace I k = (lbn : ℕ) × IsHomeAt I lbn × IsHomePlace k × (k < lbn)

-- the index is bad for this reason
abbrev pub IsIndexFault : List (List ℕ) → VolumeLayout → IndexFault → Type 0
IsIndexFault I L TooShort = length L.index < L.home.index_bitmap_size + 18
IsIndexFault I L (Misplaced v) = (i : ℕ) × (v ≡ i + 3) × IsElsewhere L i × ((k : ℕ) → k < i → ¬ IsElsewhere L k)
IsIndexFault I L (OtherHome lbn) = IsHomeAt I lbn × (slice_get L.index 0 ≢ Some lbn) × (slice_get L.index 1 ≢ Some lbn)
IsIndexFault I L (FreePlace k) = IsLowerPlace I k × IsTrue (is_free_block I L k)
IsIndexFault I L (HeldPlace k n) = IsLowerPlace I k × (vbn : ℕ) × Holds I L n vbn k × (n ≢ 3) × (n ≢ 5) × ¬ ((n ≡ 1) × (vbn ≤ 2))

-- the line holds for a volume with this layout
abbrev pub IsLineOf : List (List ℕ) → VolumeLayout → FaultLine → Type 0
IsLineOf I L (Plain fault) = IsTrueOf I L fault
IsLineOf I L (Shared m n lbn count) = AreSharing I L m n lbn count
IsLineOf I L (Index why) = IsIndexFault I L why

-- the line holds for the image
abbrev pub LineIsTrue : List (List ℕ) → FaultLine → Type 0
LineIsTrue I (Plain fault) = FaultIsTrue I fault
LineIsTrue I (Shared m n lbn count) = (L : VolumeLayout) × IsLayoutOf I L × AreSharing I L m n lbn count
LineIsTrue I (Index why) = (L : VolumeLayout) × IsLayoutOf I L × IsIndexFault I L why

-- the file that a fault of a mount is about: the first of two
abbrev pub file_in : MountFault → Option ℕ
file_in NoHome = None
file_in (UnsupportedMap n) = Some n
file_in (BadChain n) = Some n
file_in (OutsideVolume n lbn) = Some n
file_in BadIndex = None
file_in BadStorageMap = None
file_in BadMaster = None
file_in (DoublyUsed m n lbn) = Some m
file_in (MarkedFree n lbn) = Some n
file_in (BadDirectory n) = Some n
file_in (DuplicateName n) = Some n
file_in NoMemory = None

-- the file that a line is about: the first of two
abbrev pub first_file : FaultLine → Option ℕ
first_file (Plain fault) = file_in fault
first_file (Shared m n lbn count) = Some m
first_file (Index TooShort) = None
first_file (Index (Misplaced v)) = None
first_file (Index (OtherHome lbn)) = None
first_file (Index (FreePlace k)) = None
first_file (Index (HeldPlace k n)) = Some n

-- the other of two files that a line is about
abbrev pub second_file : FaultLine → Option ℕ
second_file (Plain fault) = None
second_file (Shared m n lbn count) = if m == n then None else Some n
second_file (Index why) = None
