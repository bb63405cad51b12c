use Rattle.std.proofs.Common.{arith}
use Rattle.ods_check.proofs.CountingStrays.{strays_same, strays_more, strays_first}
use Rattle.ods_check.proofs.strays.count_on.Goals as goal

pub returns-then-not-is_stray-clause-strays : goal.returns-then-not-is_stray-clause-strays
returns-then-not-is_stray-clause-strays c = strays_same c.args.disk.now.image.now c.args.disk.now.layout.now c.args.number c.args.strays.count c.args.strays.first c.requires.strays c.if-not-is_stray.ensures

pub returns-then-strays-eq0-clause-strays : goal.returns-then-strays-eq0-clause-strays
returns-then-strays-eq0-clause-strays c =
    strays_first c.args.disk.now.image.now c.args.disk.now.layout.now c.args.number c.args.strays.count c.args.strays.first c.requires.strays c.if-not-is_stray.ensures c.if-strays-eq0.true

pub returns-clause-strays : goal.returns-clause-strays
returns-clause-strays c =
    let some = c.if-strays-eq0.false in
    strays_more c.args.disk.now.image.now c.args.disk.now.layout.now c.args.number c.args.strays.count c.args.strays.first c.requires.strays c.if-not-is_stray.ensures (omega (arith, some))
