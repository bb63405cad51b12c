use Rattle.ods_remains.proofs.Summing.{no_next, has_next}
use Rattle.ods_remains.proofs.left.next_by.Goals as goal

pub returns-then-left-eq0-clause-next : goal.returns-then-left-eq0-clause-next
returns-then-left-eq0-clause-next c =
    let D = c.args.disk.now in
    no_next D.image.now D.layout.now c.args.number c.left_at-left.result c.left_at-left.ensures c.if-left-eq0.true

pub returns-else-left-eq0-clause-next : goal.returns-else-left-eq0-clause-next
returns-else-left-eq0-clause-next c =
    let D = c.args.disk.now in
    (has_next D.image.now D.layout.now c.args.number c.left_at-left.result c.left_at-left.ensures c.if-left-eq0.false).0

pub returns-else-left-eq0-clause-small : goal.returns-else-left-eq0-clause-small
returns-else-left-eq0-clause-small c =
    let D = c.args.disk.now in
    (has_next D.image.now D.layout.now c.args.number c.left_at-left.result c.left_at-left.ensures c.if-left-eq0.false).1
