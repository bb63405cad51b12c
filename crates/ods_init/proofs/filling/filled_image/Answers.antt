use Rattle.ods_init.proofs.Building.{filled_read}
use Rattle.ods_init.proofs.filling.filled_image.Goals as goal

pub returns-in-Ok : goal.returns-in-Ok
returns-in-Ok c = let read = c.in-Ok.ensures in filled_read c.in-Ok.image c.args.blocks c.args.byte read.0 _ read.1 read.2.2 read.2.1 read.2.0
