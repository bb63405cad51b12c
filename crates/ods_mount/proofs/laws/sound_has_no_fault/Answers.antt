use Rattle.ods_mount.proofs.Soundness.{IsSound-by}
use Rattle.ods_mount.proofs.laws.sound_has_no_fault.Goals as goal

pub returns : goal.returns
returns c = IsSound-by
