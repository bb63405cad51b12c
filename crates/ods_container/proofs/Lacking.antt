-- Files with blocks past the end of the host's file.
use Rattle.std.proofs.Common.{◌≡◌, ℕ, Bool, true, false, MatchBool, ◌≤◌, List, length, take, inl, inr, refl, sym, subst}
use Rattle.std.proofs.lemmas.List.{take_all}
use Rattle.ods_space.specs.Files.{IsLayoutOf}
use Rattle.ods_space.specs.Layout.{VolumeLayout}
use Rattle.ods_mount.proofs.Layouts.{layout_is_one}
use Rattle.ods_container.specs.Size.{AreMappedBelow}
use Rattle.ods_container.specs.Part.{HaveBlocksBelow, IsReadablePart}

-- what holds of one layout holds of the volume
pub all_below : (I : List (List ℕ)) (L : VolumeLayout) (n : ℕ) (r : Bool) → IsLayoutOf I L →
    MatchBool r (AreMappedBelow I L n) (¬ AreMappedBelow I L n) → MatchBool r (HaveBlocksBelow I n) (¬ HaveBlocksBelow I n)
all_below I L n true layout all = λ M other. subst (λ N. AreMappedBelow I N n) (layout_is_one I L M layout other) all
all_below I L n false layout none = λ all. none (all L layout)

-- an image without a layout has no files
pub none_below : (I : List (List ℕ)) (n : ℕ) → ((L : VolumeLayout) → ¬ IsLayoutOf I L) → HaveBlocksBelow I n
none_below I n none = λ L layout. absurd (none L layout)

-- the whole image
pub part_whole : (I : List (List ℕ)) (n : ℕ) → HaveBlocksBelow I n → IsReadablePart I n I
part_whole I n all = inl (all, refl)

-- its first blocks
pub part_cut : (I J : List (List ℕ)) (n : ℕ) → ¬ HaveBlocksBelow I n → J ≡ take n I → IsReadablePart I n J
part_cut I J n lacks is = inr (lacks, is)

-- an image that has no more blocks
pub part_short : (I : List (List ℕ)) (n : ℕ) → ¬ HaveBlocksBelow I n → length I ≤ n → IsReadablePart I n I
part_short I n lacks few = inr (lacks, sym (take_all n I few))
