use Rattle.ods_mount.proofs.Checked.{sound_by}
use Rattle.ods_mount.proofs.mounted.Mounted.new.Goals as goal

pub invariant_of-result : goal.invariant_of-result
invariant_of-result c = sound_by c.args.image c.args.layout c.requires
