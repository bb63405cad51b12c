-- Entries that a directory's end mark hides.
use Rattle.std.specs.Prelude.{ℕ, List}
use Rattle.ods_space.specs.Layout.{VolumeLayout}
use Rattle.ods_space.specs.Files.{HasBlocks}
use Rattle.ods_directory.specs.Hidden.{HasHidden}
use Rattle.ods_mount.specs.Faults.{IsDirectoryFile, contents_of, mark_at}

-- file n is a directory, and an entry of its blocks past its end mark names a file
pub record HidesEntries (I : List (List ℕ)) (L : VolumeLayout) (n : ℕ) : Type 0 where
  pub directory : IsDirectoryFile I L n
  pub lbns : List ℕ
  pub held : HasBlocks I L n lbns
  pub hidden : HasHidden (contents_of I lbns) (mark_at I L n lbns)
