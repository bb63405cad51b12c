-- How many bytes a header has, the attributes in it, and a file's blocks.
use Rattle.std.proofs.Common.{◌≡◌, ℕ, ◌-◌, ◌<◌, ◌≤◌, ap, sym, ◌∙◌, List, [], get_or, length, map, Option, Some, None, arith, inl, inr}
use Rattle.std.specs.Prelude.{◌⊎◌, slice_range}
use Rattle.std.specs.List.{All}
use Rattle.std.specs.Option.{option_map_or}
use Rattle.std.proofs.lemmas.Bool.{cases_lt}
use Rattle.std.proofs.lemmas.List.{get_or_past, length-drop, length-take}
use Rattle.std.proofs.lemmas.List.Elements.{All-map}
use Rattle.ods_base.specs.Block.{word}
use Rattle.ods_base.specs.Image.{IsImage, block_at}
use Rattle.ods_space.specs.Files.{AreInside, IsFile}
use Rattle.ods_space.specs.Layout.{VolumeLayout, header_at, place_of}

-- the header of a file is a block
pub header_sized : (I : List (List ℕ)) (L : VolumeLayout) (n : ℕ) → IsImage I → IsFile I L n → length (header_at I L n) ≡ 512
header_sized I L n image file = by (place_of L n) file.valid.header.level
  where
    by : (o : Option ℕ) → word (option_map_or (block_at I) o []) 3 ≡ 257 → length (option_map_or (block_at I) o []) ≡ 512
    by None level = absurd (let wrong : 0 ≡ 257 = level in omega (arith, wrong))
    by (Some lbn) level = here (cases_lt lbn (length I))
      where
        here : (lbn < length I) ⊎ (length I ≤ lbn) → length (block_at I lbn) ≡ 512
        here (inl small) = (image.blocks lbn [] small).size
        here (inr past) = absurd (let wrong : 0 ≡ 257 = ap (λ b. word b 3) (sym (get_or_past I lbn [] past)) ∙ level in omega (arith, wrong))

-- its attributes are 32 bytes
pub attributes_are : (b : List ℕ) → length b ≡ 512 → length (slice_range b 14 46) ≡ 32
attributes_are b size = simp (length-take, length-drop) (omega (arith, size))

-- each block of a file has 512 bytes
pub blocks_sized : (I : List (List ℕ)) (lbns : List ℕ) → IsImage I → AreInside I lbns → All (λ b. length b ≡ 512) (map (block_at I) lbns)
blocks_sized I lbns image inside = All-map (λ b. length b ≡ 512) (block_at I) lbns (λ k d small. (image.blocks (get_or lbns k d) [] (inside k d small)).size)
