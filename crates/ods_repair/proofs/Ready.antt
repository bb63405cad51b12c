-- When runs of a file can move, and why they cannot.
use Rattle.std.proofs.Common.{◌≡◌, ℕ, ◌<◌, List, length, Some, arith, inl, inr}
use Rattle.std.proofs.lemmas.Option.{slice_get_within}
use Rattle.ods_space.specs.Layout.{VolumeLayout, place_of}
use Rattle.ods_space.specs.Files.{HasBlocks, IsLayoutOf}
use Rattle.ods_check.specs.HeldFree.{IsHeldBesides, IsHeldFree}
use Rattle.ods_mount.specs.Faults.{HasBadIndex}
use Rattle.ods_repair.specs.Moved.{CanMove}
use Rattle.ods_repair.specs.Spare.{AreOnce, AreSpare, IsNotSpare}
use Rattle.ods_repair.specs.Unshared.{IsNotUnshared}
use Rattle.ods_repair.specs.declared.fault.RepairFault.{RepairFault}
use Rattle.ods_repair.specs.declared.fault.RepairFault.TheVariants.{NoHeader, Unreached, NoMemory, NotRemoved, NotEntered, FixedBlock, SharedBlock, RepeatedBlock, Reserved, NoChain, HeldFree, NoDirectory, BadEntry, VersionsFull}

-- a block of INDEXF.SYS that stands twice is why
pub once_fault : (I : List (List ℕ)) (L : VolumeLayout) (n : ℕ) (why : RepairFault) → ((first : ℕ) → IsNotSpare I L 1 L.index first why) → IsNotUnshared I L n why
once_fault I L n (NoHeader k) f = absurd (f 0)
once_fault I L n (Unreached id) f = absurd (f 0)
once_fault I L n NoMemory f = tt
once_fault I L n (NotRemoved x r) f = absurd (f 0)
once_fault I L n (NotEntered x r) f = absurd (f 0)
once_fault I L n (FixedBlock m b) f = inr (f 0)
once_fault I L n (SharedBlock m b) f =
    let past = (f (length L.index)).1 in
    let low = past.1 in
    let within = slice_get_within L.index past.0 b past.2 in
    absurd (omega (arith, low, within))
once_fault I L n (RepeatedBlock m b) f = inr (f 0)
once_fault I L n (Reserved m) f = absurd (f 0)
once_fault I L n (NoChain m) f = absurd (f 0)
once_fault I L n (HeldFree b) f = absurd (f 0)
once_fault I L n NoDirectory f = absurd (f 0)
once_fault I L n BadEntry f = absurd (f 0)
once_fault I L n VersionsFull f = absurd (f 0)

-- a block of BITMAP.SYS that cannot change alone is why
pub spare_fault : (I : List (List ℕ)) (L : VolumeLayout) (n : ℕ) (why : RepairFault) → IsNotSpare I L 2 L.bitmap 0 why → IsNotUnshared I L n why
spare_fault I L n (NoHeader k) f = absurd f
spare_fault I L n (Unreached id) f = absurd f
spare_fault I L n NoMemory f = tt
spare_fault I L n (NotRemoved x r) f = absurd f
spare_fault I L n (NotEntered x r) f = absurd f
spare_fault I L n (FixedBlock m b) f = inl f
spare_fault I L n (SharedBlock m b) f = inl f
spare_fault I L n (RepeatedBlock m b) f = inl f
spare_fault I L n (Reserved m) f = absurd f
spare_fault I L n (NoChain m) f = absurd f
spare_fault I L n (HeldFree b) f = absurd f
spare_fault I L n NoDirectory f = absurd f
spare_fault I L n BadEntry f = absurd f
spare_fault I L n VersionsFull f = absurd f

pub can_move : (I : List (List ℕ)) (L : VolumeLayout) (n : ℕ) (blocks : List ℕ) → IsLayoutOf I L → 5 < n → HasBlocks I L n blocks → ¬ HasBadIndex I L → AreOnce L.index → AreSpare I L 2 L.bitmap 0
    → ((x : ℕ) → place_of L n ≡ Some x → ¬ IsHeldBesides I L 1 x) → ((b : ℕ) → ¬ IsHeldFree I L b) → CanMove I L n
can_move I L n blocks layout other has index once bitmap header used = record {
  layout = layout;
  other = other;
  blocks = blocks;
  has = has;
  index = index;
  once = once;
  bitmap = bitmap;
  header = header;
  used = λ m b f. used b (m, f);
}
