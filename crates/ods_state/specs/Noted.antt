-- Notes about a directory that are kept from one request to the next: its blocks, and the tags of their entries, so that a look-up reads few blocks.
use Rattle.std.specs.Prelude.{◌≢◌, ◌<◌, ℕ, List, length, IfSome, Option}
use Rattle.ods_space.specs.Files.{HasBlocks}
use Rattle.ods_space.specs.Layout.{VolumeLayout}
use Rattle.ods_directory.specs.Tags.{AreTags}
use Rattle.ods_mount.specs.Faults.{contents_of}
use Rattle.ods_state.specs.declared.known_names.KnownNames.{KnownNames}

-- These are the blocks of the file, and the tags of the entries in each. The file has at least one block, and is neither INDEXF.SYS nor BITMAP.SYS.
-- That the file has the blocks is stated by its double negation, which a proof can carry through a request by cases.
pub record AreOfFile (I : List (List ℕ)) (L : VolumeLayout) (file : ℕ) (blocks : List ℕ) (tags : List (List ℕ)) : Type 0 where
  pub index : file ≢ 1
  pub bitmap : file ≢ 2
  pub some : 0 < length blocks
  pub held : ¬ (¬ HasBlocks I L file blocks)
  pub tagged : AreTags (contents_of I blocks) tags

-- the note is correct for these blocks
abbrev pub AreNamesKnown : List (List ℕ) → VolumeLayout → KnownNames → Type 0
AreNamesKnown I L names = AreOfFile I L names.file names.blocks.items names.tags.items

-- there is no note, or the note is correct
abbrev pub MayBeKnown : List (List ℕ) → VolumeLayout → Option KnownNames → Type 0
MayBeKnown I L names = IfSome names (AreNamesKnown I L)
