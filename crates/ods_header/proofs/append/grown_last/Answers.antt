use Rattle.std.proofs.Common.{arith}
use Rattle.std.proofs.lemmas.List.{length-take}
use Rattle.ods_header.proofs.Grown.{as_many_as_fit, grown_alone, grown_linked}
use Rattle.ods_header.proofs.append.grown_last.Goals as goal

pub append_runs-grown-requires-clause-room : goal.append_runs-grown-requires-clause-room
append_runs-grown-requires-clause-room c = omega (arith, length-take c.min.result c.args.runs.now, c.min.ensures, c.room.ensures)

pub returns-then-next-eq0-clause-grown : goal.returns-then-next-eq0-clause-grown
returns-then-next-eq0-clause-grown c =
    let taken = as_many_as_fit c.args.block.now c.append_runs-grown.result c.args.runs.now c.min.result c.room.result c.min.ensures c.room.ensures c.append_runs-grown.ensures.changed in
    grown_alone c.args.block.now c.append_runs-grown.result c.args.runs.now c.args.number c.args.next.number c.args.next.sequence c.requires.valid taken c.append_runs-grown.ensures.fields c.append_runs-grown.ensures.valid c.if-next-eq0.true

pub returns-else-next-eq0-clause-grown : goal.returns-else-next-eq0-clause-grown
returns-else-next-eq0-clause-grown c =
    let taken = as_many_as_fit c.args.block.now c.append_runs-grown.result c.args.runs.now c.min.result c.room.result c.min.ensures c.room.ensures c.append_runs-grown.ensures.changed in
    grown_linked c.args.block.now c.append_runs-grown.result c.with_next.result c.args.runs.now c.args.number c.args.next.number c.args.next.sequence c.requires.valid taken c.append_runs-grown.ensures.fields c.append_runs-grown.ensures.valid
    c.with_next.ensures.changed c.with_next.ensures.fields c.with_next.ensures.pointers c.with_next.ensures.valid c.if-next-eq0.false
