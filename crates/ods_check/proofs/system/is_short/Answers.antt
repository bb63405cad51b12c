use Rattle.std.proofs.Common.{length, ap, arith}
use Rattle.ods_check.proofs.Telling.{long_enough}
use Rattle.ods_check.proofs.system.is_short.Goals as goal

pub returns : goal.returns
returns c = long_enough c.args.disk.now.image.now c.args.disk.now.layout.now c.requires (let same = ap length c.bitmap.ensures in let size = c.if-bitmap-lt2.false in omega arith)
