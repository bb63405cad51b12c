use Rattle.ods_mount.proofs.Checked.{sound_by}
use Rattle.ods_mount.proofs.Soundness.{IsSound-by}
use Rattle.ods_mount.proofs.check.mount.Goals as goal

pub returns-in-Ok-clause-sound : goal.returns-in-Ok-clause-sound
returns-in-Ok-clause-sound c = IsSound-by c.args.image c.in-Ok.layout (sound_by c.args.image c.in-Ok.layout c.in-Ok.ensures.ok)
