-- The end of `info` of an image that a mount takes.
use Rattle.std.proofs.Common.{◌≡◌, ℕ, List, Result, Ok, Err, inl, IfOk}
use Rattle.ods_mount.proofs.Checked.{sound_by}
use Rattle.ods_mount.proofs.Soundness.{IsSound-by}
use Rattle.ods_mount.specs.Checks.{IsChecked}
use Rattle.ods_mount.specs.Faults.{IsSound}
use Rattle.ods_space.specs.Layout.{VolumeLayout}
use Rattle.ods_shell.specs.declared.status.Status.{Status}
use Rattle.ods_shell.specs.declared.status.Status.TheVariants as status
use Rattle.fs_reads.specs.Infos.{EndsInfo}

-- what is shown of a checked image ends an `info` of a sound one
pub ends_sound : {E : Type 0} (r : Result Status E) (I : List (List ℕ)) (L : VolumeLayout) → IsChecked I L → IfOk r (λ s. s ≡ status.Done) → IfOk r (EndsInfo (IsSound I))
ends_sound (Ok s) I L checked done = inl (done, IsSound-by I L (sound_by I L checked))
ends_sound (Err why) I L checked done = tt
