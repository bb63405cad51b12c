-- The results of a mount and a check of an image depend only on its tables: every other block may have any bytes.
use Rattle.std.specs.Prelude.{◌≡◌, ◌↔◌, ℕ, List}
use Rattle.std.specs.List.{Contains}
use Rattle.ods_base.specs.Image.{block_at}
use Rattle.ods_space.specs.Layout.{VolumeLayout}
use Rattle.ods_space.specs.Files.{HasBlocks, IsLayoutOf}
use Rattle.ods_space.specs.Free.{is_free_block}
use Rattle.ods_mount.specs.declared.fault.MountFault.{MountFault}
use Rattle.ods_mount.specs.Faults.{IsDirectoryFile, IsTrueOf, contents_of}
use Rattle.ods_mount.specs.Sound.{IsSoundBy}
use Rattle.ods_check.specs.declared.finding.Finding.{Finding}
use Rattle.ods_check.specs.Findings.{IsFound}
use Rattle.ods_repair.specs.Framed.{IsReadAs, KeepsOwn}

-- J has as many blocks as I, and the same tables: the locations of home blocks, the index bitmap, and the blocks of INDEXF.SYS, BITMAP.SYS and
-- directories.
pub record HasSameTables (I J : List (List ℕ)) (L : VolumeLayout) : Type 0 where
  pub own : KeepsOwn I J L
  pub bitmap : (b : ℕ) → Contains L.bitmap b → block_at J b ≡ block_at I b
  pub directories : (n b : ℕ) (blocks : List ℕ) → IsDirectoryFile I L n → HasBlocks I L n blocks → Contains blocks b → block_at J b ≡ block_at I b

-- J has the same facts of files as I: the same headers, chains, free blocks and names, the same faults and the same findings. It is sound if I is.
pub record SaysTheSame (I J : List (List ℕ)) (L : VolumeLayout) : Type 0 where
  pub read : IsReadAs I J L
  pub free : (b : ℕ) → is_free_block J L b ≡ is_free_block I L b
  pub names : (n : ℕ) (blocks : List ℕ) → IsDirectoryFile I L n → HasBlocks I L n blocks → contents_of J blocks ≡ contents_of I blocks
  pub faults : (fault : MountFault) → IsTrueOf I L fault ↔ IsTrueOf J L fault
  pub findings : (finding : Finding) → IsFound I L finding ↔ IsFound J L finding
  pub sound : IsSoundBy I L ↔ IsSoundBy J L

-- Images with the same tables have the same facts of files.
abbrev pub TablesSayAll : Type 0
TablesSayAll = (I J : List (List ℕ)) (L : VolumeLayout) → IsLayoutOf I L → HasSameTables I J L → SaysTheSame I J L
