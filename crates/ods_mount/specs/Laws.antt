-- The law that no fault holds for an image that is sound by its structure.
use Rattle.std.specs.Prelude.{ℕ, List}
use Rattle.ods_space.specs.Layout.{VolumeLayout}
use Rattle.ods_mount.specs.Faults.{IsSound}
use Rattle.ods_mount.specs.Sound.{IsSoundBy}

abbrev pub SoundHasNoFault : Type 0
SoundHasNoFault = (I : List (List ℕ)) (L : VolumeLayout) → IsSoundBy I L → IsSound I
