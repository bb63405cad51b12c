-- The blocks that are left of a deleted file, by LBNs of which those past the image stand for the others.
use Rattle.std.proofs.Common.{◌≡◌, ◌∙◌, ℕ, ◌<◌, Bool, true, false, refl, ap, List, [], ◌∷◌, length, map, arith}
use Rattle.std.specs.Prelude.{nat_lt, ◌&&◌, if◌then◌else◌}
use Rattle.std.proofs.lemmas.Bool.{and_parts, le-ltb, lt-ltb, ltb-true}
use Rattle.ods_base.specs.Block.{zeros}
use Rattle.ods_base.specs.Image.{block_at}
use Rattle.ods_space.specs.Free.{is_free_block, is_covered, storage_bit}
use Rattle.ods_space.specs.Layout.{VolumeLayout}
use Rattle.ods_files.specs.Body.{block_or_zeros, padded}
use Rattle.ods_shell.specs.Former.{left_block, left_lbn}

module _ (I : List (List ℕ)) where
  -- a block of the image is there, and the first past it reads as zeros
  either_way : (lbn : ℕ) (free : Bool) → (free ≡ true → lbn < length I) → block_or_zeros I (if free then lbn else length I) ≡ (if free then block_at I lbn else zeros)
  either_way lbn true inside = rw (lt-ltb lbn (length I) (inside refl)) refl
  either_way lbn false inside = rw (le-ltb (length I) (length I) (omega arith)) refl

  module _ (L : VolumeLayout) where
    left_padded : (lbn : ℕ) → block_or_zeros I (left_lbn I L lbn) ≡ left_block I L lbn
    left_padded lbn = either_way lbn (is_free_block I L lbn)
        (λ free. ltb-true lbn (length I) (and_parts (nat_lt lbn (length I)) (is_covered L lbn && storage_bit I L lbn) free).0)

    pub left_all : (lbns : List ℕ) → padded I (map (left_lbn I L) lbns) ≡ map (left_block I L) lbns
    left_all [] = refl
    left_all (lbn ∷ lbns) = ap (λ b. b ∷ padded I (map (left_lbn I L) lbns)) (left_padded lbn) ∙ ap (λ rest. left_block I L lbn ∷ rest) (left_all lbns)
