-- The two forms of an image: alone with its blocks, or over a fixed image.
use Rattle.std.specs.Prelude.{ℕ, List}
use Rattle.ods_base.specs.declared.image.Kept.{Kept}
use Rattle.ods_base.specs.declared.image.Kept.TheVariants.{Alone, Over}

-- the blocks of the image
abbrev pub blocks_of : Kept → List (List ℕ)
blocks_of (Alone blocks) = blocks.items
blocks_of (Over image) = image
