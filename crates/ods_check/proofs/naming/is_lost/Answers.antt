use Rattle.std.proofs.Common.{arith}
use Rattle.ods_check.proofs.Directories.{lost_is}
use Rattle.ods_check.proofs.naming.is_lost.Goals as goal

pub returns-in-Some : goal.returns-in-Some
returns-in-Some c =
    let above = c.if-number-le5.false in
    lost_is c.args.disk.now.image.now c.args.disk.now.layout.now c.args.number c.args.named.now c.contains.result c.contains.ensures c.requires (omega arith) c.in-Some.ensures.some.0
