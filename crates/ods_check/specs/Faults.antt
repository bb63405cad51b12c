-- The faults that a list of all faults contains.
use Rattle.std.specs.Prelude.{◌≡◌, ◌≢◌, ℕ, ◌<◌, ◌≤◌, ◌⊎◌, List, [], ◌∷◌, ◌++◌, length}
use Rattle.std.specs.List.{All, Contains}
use Rattle.ods_space.specs.Layout.{VolumeLayout}
use Rattle.ods_mount.specs.declared.fault.MountFault.{MountFault}
use Rattle.ods_mount.specs.declared.fault.MountFault.TheVariants.{BadIndex, BadStorageMap, BadMaster, UnsupportedMap, BadChain, OutsideVolume, MarkedFree, BadDirectory, DuplicateName}
use Rattle.ods_mount.specs.Faults.{IsTrueOf}
use Rattle.ods_check.specs.declared.fault_line.IndexFault.{IndexFault}
use Rattle.ods_check.specs.declared.fault_line.IndexFault.TheVariants.{TooShort, Misplaced, OtherHome, FreePlace, HeldPlace}
use Rattle.ods_check.specs.declared.fault_line.FaultLine.{FaultLine}
use Rattle.ods_check.specs.declared.fault_line.FaultLine.TheVariants.{Plain, Shared, Index}
use Rattle.ods_check.specs.Lists.{AreDistinct}
use Rattle.ods_mount.specs.Checks.{IsElsewhere}
use Rattle.ods_check.specs.Lines.{Share, IsIndexFault}

-- a line has this fault as the mount reports it
abbrev pub Tells : List FaultLine → MountFault → Type 0
Tells faults fault = Contains faults (Plain fault)

-- For file n, if its chain is whole, each block that is marked free has a line. So has each location of a lower home block in it that a request can
-- change. A directory also has a line for a bad entry and a line for two equal names.
pub record TellsWhole (I : List (List ℕ)) (L : VolumeLayout) (faults : List FaultLine) (n : ℕ) : Type 0 where
  pub free : (b : ℕ) → IsTrueOf I L (MarkedFree n b) → Tells faults (MarkedFree n b)
  pub places : (k : ℕ) → IsIndexFault I L (HeldPlace k n) → Contains faults (Index (HeldPlace k n))
  pub names : IsTrueOf I L (BadDirectory n) → Tells faults (BadDirectory n)
  pub twins : IsTrueOf I L (DuplicateName n) → Tells faults (DuplicateName n)

-- File n has a line if it has no chain or shares a header with another file. A chain that names blocks which the image lacks has a line for one of
-- them. A whole chain has the lines of `TellsWhole`.
pub record TellsFile (I : List (List ℕ)) (L : VolumeLayout) (faults : List FaultLine) (n : ℕ) : Type 0 where
  pub chain : IsTrueOf I L (BadChain n) → Tells faults (BadChain n)
  pub outside : (b : ℕ) → IsTrueOf I L (OutsideVolume n b) → (lbn : ℕ) × Tells faults (OutsideVolume n lbn)
  pub whole : TellsWhole I L faults n

-- each reason why the index is bad that is in INDEXF.SYS or in a free location has a line
pub record TellsIndex (I : List (List ℕ)) (L : VolumeLayout) (faults : List FaultLine) : Type 0 where
  pub short : IsIndexFault I L TooShort → Contains faults (Index TooShort)
  pub misplaced : (i : ℕ) → IsElsewhere L i → (v : ℕ) × Contains faults (Index (Misplaced v))
  pub first : (v : ℕ) → IsIndexFault I L (Misplaced v) → Contains faults (Index (Misplaced v))
  pub home : (lbn : ℕ) → IsIndexFault I L (OtherHome lbn) → Contains faults (Index (OtherHome lbn))
  pub free : (k : ℕ) → IsIndexFault I L (FreePlace k) → Contains faults (Index (FreePlace k))

-- if files m and n share a block, or m = n holds one twice, the pair has a line
abbrev pub TellsPair : List (List ℕ) → VolumeLayout → List FaultLine → ℕ → ℕ → Type 0
TellsPair I L faults m n = (b : ℕ) → Share I L m n b → (lbn : ℕ) × (count : ℕ) × Contains faults (Shared m n lbn count)

-- file n shares a block with an earlier file
abbrev pub SharesBefore : List (List ℕ) → VolumeLayout → ℕ → Type 0
SharesBefore I L n = (m : ℕ) × (b : ℕ) × (m < n) × Share I L m n b

-- File n is added to the others. It shares a block with an earlier file, and the kept lines are full.
pub record IsOneMore (I : List (List ℕ)) (L : VolumeLayout) (faults : List FaultLine × ℕ) (n : ℕ) (old new : List ℕ × ℕ) : Type 0 where
  pub is : new ≡ (old.0 ++ n ∷ [], old.1)
  pub shares : SharesBefore I L n
  pub full : faults.1 ≤ length faults.0

-- The others are files that share blocks with earlier files, each once. There are some only if the kept lines are full.
pub record AreOthers (I : List (List ℕ)) (L : VolumeLayout) (faults : List FaultLine × ℕ) (others : List ℕ) : Type 0 where
  pub each : All (SharesBefore I L) others
  pub once : AreDistinct others
  pub full : others ≢ [] → faults.1 ≤ length faults.0

-- Each fault of a volume with this layout is in the list: each reason why the index is bad, a storage bitmap that is too short, a missing master
-- directory, headers of another format, the faults of each file, and each pair of files that share blocks. A file that holds blocks twice is such a
-- pair. A pair is left out if its later file is one of the others.
pub record TellsAll (I : List (List ℕ)) (L : VolumeLayout) (others : List ℕ) (faults : List FaultLine) : Type 0 where
  pub index : (why : IndexFault) → IsIndexFault I L why → Contains faults (Index why)
  pub bad_index : IsTrueOf I L BadIndex → (why : IndexFault) × Contains faults (Index why)
  pub storage : IsTrueOf I L BadStorageMap → Tells faults BadStorageMap
  pub master : IsTrueOf I L BadMaster → Tells faults BadMaster
  pub formats : (n : ℕ) → IsTrueOf I L (UnsupportedMap n) → Tells faults (UnsupportedMap n)
  pub files : (n : ℕ) → TellsFile I L faults n
  pub shared : (m n : ℕ) → m ≤ n → TellsPair I L faults m n ⊎ Contains others n
