-- The blocks of a file, computed along its chain of headers.
use Rattle.std.specs.Prelude.{◌≡◌, ℕ, List}
use Rattle.ods_space.specs.Layout.{VolumeLayout}
use Rattle.ods_space.specs.Chain.{headers_of, named_by}
use Rattle.ods_directory.specs.Tags.{AreTags}
use Rattle.ods_mount.specs.Faults.{contents_of}
use Rattle.ods_state.specs.declared.known_names.KnownNames.{KnownNames}

-- the blocks that the headers of file n map, one header after another
unfoldable pub blocks_in_order : List (List ℕ) → VolumeLayout → ℕ → List ℕ
blocks_in_order I L n = named_by (headers_of I L n)

-- the notes are about file n: its blocks in order, and the tags of the entries in each
abbrev pub AreInOrder : List (List ℕ) → VolumeLayout → ℕ → KnownNames → Type 0
AreInOrder I L n names = (names.blocks.items ≡ blocks_in_order I L n) × AreTags (contents_of I (blocks_in_order I L n)) names.tags.items

-- these are the tags of the entries in each of these blocks
abbrev pub AreTaggedBlocks : List (List ℕ) → List ℕ → List (List ℕ) → Type 0
AreTaggedBlocks I blocks tags = AreTags (contents_of I blocks) tags
