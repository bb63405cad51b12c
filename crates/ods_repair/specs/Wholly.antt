-- Images in which all faults that `used`, `share` and `double` mend are mended: they are sound if there was no other fault.
use Rattle.std.specs.Prelude.{◌≡◌, ℕ, ◌≤◌, List, [], ◌∷◌}
use Rattle.std.specs.List.{All, Contains}
use Rattle.ods_space.specs.Layout.{VolumeLayout}
use Rattle.ods_space.specs.Files.{IsLayoutOf}
use Rattle.ods_mount.specs.declared.fault.MountFault.{MountFault}
use Rattle.ods_mount.specs.declared.fault.MountFault.TheVariants.{DoublyUsed, DuplicateName, MarkedFree}
use Rattle.ods_mount.specs.Faults.{FaultIsTrue, IsSound, IsTrueOf}
use Rattle.ods_check.specs.Faults.{TellsAll}
use Rattle.ods_check.specs.declared.fault_line.FaultLine.{FaultLine}
use Rattle.ods_check.specs.declared.fault_line.FaultLine.TheVariants.{Index, Plain, Shared}
use Rattle.ods_repair.specs.Doubled.{HasRenumbered}
use Rattle.ods_repair.specs.Unshared.{HasOwnRuns}
use Rattle.ods_repair.specs.Used.{AreUsed}
use Rattle.ods_repair.specs.declared.unsharing.Unshared.{Unshared}

-- the names of each of these directories are renumbered, one directory after another
abbrev pub AreRenumberedIn : VolumeLayout → List ℕ → List (List ℕ) → List (List ℕ) → Type 0
AreRenumberedIn L [] I J = J ≡ I
AreRenumberedIn L (d ∷ ds) I J = (mid : List (List ℕ)) × HasRenumbered I L d mid × AreRenumberedIn L ds mid J

-- the held blocks that were marked free are used
abbrev pub IsAllUsed : List (List ℕ) → List (List ℕ) → Type 0
IsAllUsed I J = (L : VolumeLayout) × (blocks : List ℕ) × IsLayoutOf I L × AreUsed I L blocks J

-- runs of file n have blocks of their own, and none of its runs is left
abbrev pub IsUnshared : List (List ℕ) → VolumeLayout → ℕ → List (List ℕ) → Type 0
IsUnshared I L n J = (told : Unshared) × HasOwnRuns I L n told J × (told.left ≡ 0)

-- this holds for each of these files, one after another
abbrev pub AreUnsharedIn : VolumeLayout → List ℕ → List (List ℕ) → List (List ℕ) → Type 0
AreUnsharedIn L [] I J = J ≡ I
AreUnsharedIn L (n ∷ ns) I J = (mid : List (List ℕ)) × IsUnshared I L n mid × AreUnsharedIn L ns mid J

-- no file shares a block with an earlier file, or holds one twice
abbrev pub IsAllUnshared : List (List ℕ) → List (List ℕ) → Type 0
IsAllUnshared I J = (L : VolumeLayout) × (ns : List ℕ) × IsLayoutOf I L × ((m n b : ℕ) → m ≤ n → IsTrueOf I L (DoublyUsed m n b) → Contains ns n) × AreUnsharedIn L ns I J

-- each directory that had two equal names has distinct names
abbrev pub IsAllRenumbered : List (List ℕ) → List (List ℕ) → Type 0
IsAllRenumbered I J = (L : VolumeLayout) × (ds : List ℕ) × IsLayoutOf I L × ((d : ℕ) → IsTrueOf I L (DuplicateName d) → Contains ds d) × AreRenumberedIn L ds I J

-- a fault that one of these three mends
abbrev pub IsMendable : MountFault → Type 0
IsMendable (MarkedFree n b) = Unit {0}
IsMendable (DoublyUsed m n b) = Unit {0}
IsMendable (DuplicateName d) = Unit {0}
IsMendable other = ⊥

-- If all faults of an image are of these three kinds, it is sound after all are mended.
abbrev pub MendedIsSound : Type 0
MendedIsSound = (I H K J : List (List ℕ)) → ((fault : MountFault) → FaultIsTrue I fault → IsMendable fault) → IsAllUsed I H → IsAllUnshared H K → IsAllRenumbered K J → IsSound J

-- a line of a check with such a fault
abbrev pub IsMendableLine : FaultLine → Type 0
IsMendableLine (Plain fault) = IsMendable fault
IsMendableLine (Shared m n b count) = Unit {0}
IsMendableLine (Index why) = ⊥

-- If all lines of a check of an image are of these three kinds, it is sound after all are mended.
abbrev pub MendedLinesAreSound : Type 0
MendedLinesAreSound = (I H K J : List (List ℕ)) (L : VolumeLayout) (others : List ℕ) (lines : List FaultLine) → IsLayoutOf I L → TellsAll I L others lines → All IsMendableLine lines
    → IsAllUsed I H → IsAllUnshared H K → IsAllRenumbered K J → IsSound J
