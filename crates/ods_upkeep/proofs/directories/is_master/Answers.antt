use Rattle.ods_upkeep.proofs.Made.{of_master, of_other}
use Rattle.ods_upkeep.proofs.directories.is_master.Goals as goal

pub returns-then-dir-eq-MASTER : goal.returns-then-dir-eq-MASTER
returns-then-dir-eq-MASTER c = of_master c.args.dir.number c.args.name.now c.is_text.result c.if-dir-eq-MASTER.true c.is_text.ensures

pub returns-else-dir-eq-MASTER : goal.returns-else-dir-eq-MASTER
returns-else-dir-eq-MASTER c = of_other c.args.dir.number c.args.name.now c.if-dir-eq-MASTER.false
