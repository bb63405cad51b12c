-- Repeated names in a directory, except the first, receive the next version of the name.
use Rattle.std.specs.Prelude.{◌≡◌, ◌≢◌, ◌↔◌, ◌⊎◌, ℕ, ◌+◌, ◌/◌, ◌<◌, ◌≤◌, IsTrue, List, length, slice_get, slice_index, slice_set, Some}
use Rattle.std.specs.List.{All, Contains}
use Rattle.ods_base.specs.Image.{block_at}
use Rattle.ods_space.specs.Layout.{VolumeLayout}
use Rattle.ods_space.specs.Files.{HasBlocks}
use Rattle.ods_directory.specs.Entry.{Entry, IsGoodEntry, entry_at, is_used, used_entries}
use Rattle.ods_directory.specs.Names.{HasBadEntry, IsDirectory}
use Rattle.ods_mount.specs.declared.fault.MountFault.{MountFault}
use Rattle.ods_mount.specs.declared.fault.MountFault.TheVariants.{DuplicateName}
use Rattle.ods_mount.specs.Faults.{FaultIsTrue, IsDirectoryFile, IsSound, IsTrueOf, contents_of, mark_at}
use Rattle.ods_check.specs.declared.finding.Finding.{Finding}
use Rattle.ods_check.specs.declared.finding.Finding.TheVariants.{LostFile, NamesNone, Unnamed}
use Rattle.ods_check.specs.Findings.{IsFound}
use Rattle.ods_repair.specs.declared.fault.RepairFault.{RepairFault}
use Rattle.ods_repair.specs.declared.fault.RepairFault.TheVariants.{BadEntry, NoDirectory, NoMemory, VersionsFull}
use Rattle.ods_repair.specs.Framed.{IsReadAs}
use Rattle.ods_repair.specs.Spare.{AreOnce, AreSpare, IsNotSpare}

-- one of the first `count` entries is used
abbrev pub IsUsed : (ℕ → Entry) → ℕ → ℕ → Type 0
IsUsed entry count k = (k < count) × IsTrue (is_used (entry k))

-- the key of a name and its type; the version is 0, which no good entry has
abbrev pub name_part : Entry → List ℕ
name_part e = slice_set e.key 4 0

-- the version of an entry
abbrev pub version_part : Entry → ℕ
version_part e = slice_index e.key 4

-- the entry with this version
abbrev pub with_version : Entry → ℕ → Entry
with_version e v = record { file = e.file; volume = e.volume; key = slice_set e.key 4 v }

-- used entry k has the name, type and version of an earlier entry
abbrev pub IsAgain : (ℕ → Entry) → ℕ → ℕ → Type 0
IsAgain entry count k = IsUsed entry count k × ((j : ℕ) × (j < k) × IsUsed entry count j × ((entry j).key ≡ (entry k).key))

-- v is the next version of the name of entry k: one more than the highest of all old ones, and of the new ones before it
pub record IsNextVersion (old new : ℕ → Entry) (count k v : ℕ) : Type 0 where
  pub most : v ≤ 32767
  pub above : (j : ℕ) → IsUsed old count j → name_part (old j) ≡ name_part (old k) → version_part (old j) < v
  pub behind : (j : ℕ) → j < k → IsUsed old count j → name_part (old j) ≡ name_part (old k) → version_part (new j) < v
  pub next : (j : ℕ) × IsUsed old count j × (name_part (old j) ≡ name_part (old k)) × ((version_part (old j) + 1 ≡ v) ⊎ ((j < k) × (version_part (new j) + 1 ≡ v)))

-- entry k receives the next version of its name
abbrev pub IsRenumbered : (ℕ → Entry) → (ℕ → Entry) → ℕ → ℕ → Type 0
IsRenumbered old new count k = (v : ℕ) × IsNextVersion old new count k v × (new k ≡ with_version (old k) v)

-- entry k is unchanged, or it has the name of an earlier entry and receives the next version
abbrev pub IsKeptOr : (ℕ → Entry) → (ℕ → Entry) → ℕ → ℕ → Type 0
IsKeptOr old new count k = ((¬ IsAgain old count k) × (new k ≡ old k)) ⊎ (IsAgain old count k × IsRenumbered old new count k)

-- the names are renumbered: each of the first `count` entries is unchanged, or has the name of an earlier entry and receives the next version; the
-- others are unchanged
pub record AreRenumbered (old new : ℕ → Entry) (count : ℕ) : Type 0 where
  pub each : (k : ℕ) → k < count → IsKeptOr old new count k
  pub behind : (k : ℕ) → count ≤ k → new k ≡ old k

-- A name is full: the entries before entry k have their new names, entry k has the name of an earlier entry, and its name has no next version.
abbrev pub IsFull : (ℕ → Entry) → ℕ → Type 0
IsFull old count = (new : ℕ → Entry) × (k : ℕ) × ((j : ℕ) → j < k → IsKeptOr old new count j) × IsAgain old count k × ((v : ℕ) → ¬ IsNextVersion old new count k v)

-- each fault of the image is that this directory has two equal names
abbrev pub HasOnlyDoubles : List (List ℕ) → ℕ → Type 0
HasOnlyDoubles I d = (fault : MountFault) → FaultIsTrue I fault → fault ≡ DuplicateName d

-- a finding that does not depend on names
abbrev pub IsNotOfNames : Finding → Type 0
IsNotOfNames (NamesNone n line) = ⊥
IsNotOfNames (LostFile id) = ⊥
IsNotOfNames (Unnamed n) = ⊥
IsNotOfNames other = Unit {0}

-- The blocks J are the blocks I with renumbered names in directory d, and nothing else differs.
pub record HasRenumbered (I : List (List ℕ)) (L : VolumeLayout) (d : ℕ) (J : List (List ℕ)) : Type 0 where
  pub file : IsDirectoryFile I L d
  pub blocks : List ℕ
  pub has : HasBlocks I L d blocks
  pub names : AreRenumbered (entry_at (contents_of I blocks)) (entry_at (contents_of J blocks)) (mark_at I L d blocks / 16)
  -- afterwards its names are good and distinct
  pub good : IsDirectory (contents_of J blocks) (mark_at J L d blocks)
  -- headers, chains and blocks of files are unchanged, and so are the contents of each other file
  pub elsewhere : (b : ℕ) → ¬ Contains blocks b → block_at J b ≡ block_at I b
  pub read : IsReadAs I J L
  pub contents : (n : ℕ) (bs : List ℕ) → n ≢ d → HasBlocks I L n bs → contents_of J bs ≡ contents_of I bs
  -- its names are no fault, and each other fault holds as before
  pub none : ¬ IsTrueOf J L (DuplicateName d)
  pub faults : (fault : MountFault) → fault ≢ DuplicateName d → IsTrueOf I L fault ↔ IsTrueOf J L fault
  -- the findings are as before, if they do not depend on names: the names of the directory can be read now
  pub findings : (finding : Finding) → IsNotOfNames finding → IsFound I L finding ↔ IsFound J L finding
  -- if there was no other fault, the image is sound
  pub sound : HasOnlyDoubles I d → IsSound J

-- The reason for a refusal: d is not a directory with a whole chain; an entry is not a valid name; a name has no next version; its blocks cannot
-- change without another effect; or memory runs out.
abbrev pub IsNotRenumbered : List (List ℕ) → VolumeLayout → ℕ → RepairFault → Type 0
IsNotRenumbered I L d NoDirectory = IsDirectoryFile I L d → (bs : List ℕ) → ¬ HasBlocks I L d bs
IsNotRenumbered I L d BadEntry = (bs : List ℕ) × HasBlocks I L d bs × HasBadEntry (used_entries (contents_of I bs) (mark_at I L d bs))
IsNotRenumbered I L d VersionsFull = (bs : List ℕ) × HasBlocks I L d bs × IsFull (entry_at (contents_of I bs)) (mark_at I L d bs / 16)
IsNotRenumbered I L d NoMemory = Unit {0}
IsNotRenumbered I L d other = (bs : List ℕ) × HasBlocks I L d bs × IsNotSpare I L d bs 0 other

-- directory d has these blocks, which can change without another effect, and its entries are good
pub record IsReadyDirectory (I : List (List ℕ)) (L : VolumeLayout) (d : ℕ) (blocks : List ℕ) : Type 0 where
  pub file : IsDirectoryFile I L d
  pub has : HasBlocks I L d blocks
  pub spare : AreSpare I L d blocks 0
  pub good : All IsGoodEntry (used_entries (contents_of I blocks) (mark_at I L d blocks))

-- J is I with the first n of these blocks at the LBNs with the same indices
pub record IsPut (I : List (List ℕ)) (lbns : List ℕ) (blocks : List (List ℕ)) (n : ℕ) (J : List (List ℕ)) : Type 0 where
  pub long : length J ≡ length I
  pub put : AreOnce lbns → (i b : ℕ) → i < n → slice_get lbns i ≡ Some b → block_at J b ≡ block_at blocks i
  pub others : (b : ℕ) → ¬ Contains lbns b → block_at J b ≡ block_at I b
