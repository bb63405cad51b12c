use Rattle.ods_mount.proofs.Holders.{not_held}
use Rattle.ods_mount.proofs.Naming.{held_answer}
use Rattle.ods_mount.proofs.held_twice.holds.Goals as goal

pub returns-in-Ok : goal.returns-in-Ok
returns-in-Ok c = held_answer c.args.disk.now.image.now c.args.disk.now.layout.now c.args.number c.in-Ok.ensures.ok.0 c.args.lbn c.one_names.result c.len.ensures.image c.requires c.in-Ok.ensures.ok.1 c.one_names.ensures

pub returns-in-Err : goal.returns-in-Err
returns-in-Err c = not_held c.args.disk.now.image.now c.args.disk.now.layout.now c.args.number c.args.lbn c.in-Err.field-0 c.in-Err.ensures.err c.in-Err.ensures.memory
