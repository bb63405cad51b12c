-- The sample volumes.
use Rattle.std.specs.Prelude.{◌≡◌, ℕ, List, None}
use Rattle.ods_base.specs.Image.{image_bytes}
use Rattle.ods_init.specs.declared.blueprint.Blueprint.{Blueprint}
use Rattle.ods_init.specs.New.{IsVolumeOf}

-- The blueprint of the sample of `total` blocks: INDEXF.SYS has LBN 0 to 18, BITMAP.SYS 19 and 20, the master directory 21. It is bare, and each byte
-- of its free blocks is 90.
abbrev pub sample_blueprint : ℕ → Blueprint
sample_blueprint total = record {
  blocks = total;
  places = record { most_files = 16; index_bitmap_size = 1; control = 19; map_blocks = 1; master = 21 };
  owner = record { group = 1; member = 1 };
  details = None;
  filling = 90;
}

-- these are the bytes of the blocks of the sample of `total` blocks, in order
pub record IsSample (total : ℕ) (bytes : List ℕ) : Type 0 where
  pub blocks : List (List ℕ)
  pub volume : IsVolumeOf (sample_blueprint total) blocks
  pub bytes_are : bytes ≡ image_bytes blocks
