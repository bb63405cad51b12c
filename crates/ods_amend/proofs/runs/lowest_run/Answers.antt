use Rattle.std.proofs.Common.{◌≡◌, length, arith}
use Rattle.ods_amend.proofs.RunsFound.{none_left}
use Rattle.ods_amend.proofs.runs.lowest_run.Goals as goal

pub returns-clause-none : goal.returns-clause-none
returns-clause-none c =
    let end : c.loop-at.at ≡ length c.args.disk.now.image.now = omega (arith, c.loop-at-test.false, c.loop-at.auto.at-end, c.len-at-end.ensures.value) in
    none_left c.args.disk.now.image.now c.args.disk.now.layout.now c.args.blocks c.loop-at.at c.loop-at.from end c.loop-at.invariant
