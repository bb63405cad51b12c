use Rattle.ods_mount.proofs.Checked.{sound_by}
use Rattle.ods_mount.proofs.Soundness.{IsSound-by}
use Rattle.ods_check.proofs.first.check_first.Goals as goal

pub laid_out-requires : goal.laid_out-requires
laid_out-requires c = c.in-Err.ensures.err c.if-is_memory.ensures

pub returns-in-Ok-clause-answer : goal.returns-in-Ok-clause-answer
returns-in-Ok-clause-answer c = (tt, IsSound-by c.args.image.now c.in-Ok.layout (sound_by c.args.image.now c.in-Ok.layout c.in-Ok.ensures.ok))
