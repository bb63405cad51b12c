-- Which part of an image can be read if the file of the host ends before the volume.
use Rattle.std.specs.Prelude.{◌≡◌, ℕ, ◌⊎◌, List, take}
use Rattle.ods_space.specs.Files.{IsLayoutOf}
use Rattle.ods_space.specs.Layout.{VolumeLayout}
use Rattle.ods_container.specs.Size.{AreMappedBelow}

-- each file has its blocks below LBN n, by the headers of the volume; those of BADBLK.SYS do not count
abbrev pub HaveBlocksBelow : List (List ℕ) → ℕ → Type 0
HaveBlocksBelow I n = (L : VolumeLayout) → IsLayoutOf I L → AreMappedBelow I L n

-- the whole image; or its first n blocks, if a file has others too
abbrev pub IsReadablePart : List (List ℕ) → ℕ → List (List ℕ) → Type 0
IsReadablePart I n part =
    (HaveBlocksBelow I n × (part ≡ I))
    ⊎ ((¬ HaveBlocksBelow I n) × (part ≡ take n I))
