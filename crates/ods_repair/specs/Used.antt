-- Blocks that files hold and that the storage bitmap marks free become used: the result, and the reason for a refusal.
use Rattle.std.specs.Prelude.{◌≡◌, ◌≢◌, ◌↔◌, ◌⊎◌, ℕ, ◌<◌, false, if◌then◌else◌, IsTrue, List}
use Rattle.std.specs.List.{Contains}
use Rattle.std.specs.List.Sorted.{IsStrictlyIncreasing}
use Rattle.ods_base.specs.Image.{block_at}
use Rattle.ods_header.specs.Home.{IsHomeAt, IsHomePlace}
use Rattle.ods_space.specs.Layout.{VolumeLayout}
use Rattle.ods_space.specs.Files.{HasBlocks}
use Rattle.ods_space.specs.Free.{is_covered, storage_bit}
use Rattle.ods_alloc.specs.Extend.{IsStorageBitmap, is_one_of}
use Rattle.ods_mount.specs.declared.fault.MountFault.{MountFault}
use Rattle.ods_mount.specs.declared.fault.MountFault.TheVariants.{BadIndex, MarkedFree}
use Rattle.ods_mount.specs.Faults.{FaultIsTrue, IsSound, IsTrueOf, contents_of}
use Rattle.ods_check.specs.declared.finding.Finding.{Finding}
use Rattle.ods_check.specs.Findings.{IsFound}
use Rattle.ods_check.specs.HeldFree.{IsHeldFree}
use Rattle.ods_repair.specs.declared.fault.RepairFault.{RepairFault}
use Rattle.ods_repair.specs.Framed.{IsReadAs}
use Rattle.ods_repair.specs.Spare.{AreSpare, IsNotSpare}

-- the storage bitmap can change without another effect: the blocks of BITMAP.SYS after its first
abbrev pub IsBitmapApart : List (List ℕ) → VolumeLayout → Type 0
IsBitmapApart I L = AreSpare I L 2 L.bitmap 1

-- the reason why it cannot, or memory runs out
abbrev pub IsBitmapFault : List (List ℕ) → VolumeLayout → RepairFault → Type 0
IsBitmapFault I L why = IsNotSpare I L 2 L.bitmap 1 why

-- a fault that does not depend on the blocks that the storage bitmap marks free
abbrev pub IsNotOfBits : MountFault → Type 0
IsNotOfBits BadIndex = ⊥
IsNotOfBits (MarkedFree n b) = ⊥
IsNotOfBits other = Unit {0}

-- a location at which a mount looks for a home block before the one in force: a file holds it, and it is marked free
abbrev pub HasFreePlace : List (List ℕ) → VolumeLayout → Type 0
HasFreePlace I L = (lbn : ℕ) × (k : ℕ) × IsHomeAt I lbn × IsHomePlace k × (k < lbn) × IsHeldFree I L k

-- each fault of the image is a held block that is marked free
abbrev pub HasOnlyFree : List (List ℕ) → Type 0
HasOnlyFree I = (fault : MountFault) → FaultIsTrue I fault → (n : ℕ) × (b : ℕ) × (fault ≡ MarkedFree n b)

-- The blocks J are the blocks I with these blocks marked used: the blocks that files with whole chains hold and that the storage bitmap marked
-- free.
pub record AreUsed (I : List (List ℕ)) (L : VolumeLayout) (blocks : List ℕ) (J : List (List ℕ)) : Type 0 where
  pub exactly : (b : ℕ) → Contains blocks b ↔ IsHeldFree I L b
  pub rising : IsStrictlyIncreasing blocks
  -- only their bits change, in blocks of the storage bitmap
  pub bits : (b : ℕ) → IsTrue (is_covered L b) → storage_bit J L b ≡ (if is_one_of blocks b then false else storage_bit I L b)
  pub elsewhere : (b : ℕ) → ¬ IsStorageBitmap L b → block_at J b ≡ block_at I b
  -- headers, chains and blocks of files are unchanged, and so are the contents of each file except BITMAP.SYS
  pub read : IsReadAs I J L
  pub contents : (n : ℕ) (bs : List ℕ) → n ≢ 2 → HasBlocks I L n bs → contents_of J bs ≡ contents_of I bs
  -- none is left
  pub none : (n b : ℕ) → ¬ IsTrueOf J L (MarkedFree n b)
  -- each other fault holds as before, except that a lower location for a home block may no longer be free
  pub faults : (fault : MountFault) → IsNotOfBits fault → IsTrueOf I L fault ↔ IsTrueOf J L fault
  pub index : IsTrueOf J L BadIndex → IsTrueOf I L BadIndex
  pub still : IsTrueOf I L BadIndex → IsTrueOf J L BadIndex ⊎ HasFreePlace I L
  -- the findings are as before
  pub findings : (finding : Finding) → IsFound I L finding ↔ IsFound J L finding
  -- if there was no other fault, the image is sound
  pub sound : HasOnlyFree I → IsSound J
