-- A file of a sound volume grows, or is new: the volume stays sound, where the file is still a directory, or none.
use Rattle.std.specs.Prelude.{ℕ, List}
use Rattle.ods_space.specs.Layout.{VolumeLayout}
use Rattle.ods_mount.specs.Sound.{IsSoundBy}
use Rattle.ods_state.specs.Growth.{IsGrowth}
use Rattle.ods_state.proofs.Grown.{rechained}
use Rattle.ods_state.proofs.RechainedSound.{IsStillDirectory, rechained_sound}

pub grown_sound : {I J : List (List ℕ)} {L : VolumeLayout} {n : ℕ} {headers old : List ℕ} {count : ℕ} {numbers : List ℕ} (S : IsSoundBy I L) (g : IsGrowth I J L n headers old count numbers)
    → IsStillDirectory S (rechained S g) → IsSoundBy J L
grown_sound S g = rechained_sound S (rechained S g)
