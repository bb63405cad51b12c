use Rattle.std.proofs.Common.{◌≤◌, length, arith}
use Rattle.ods_alloc.proofs.Scans.{behind_last, last_at}
use Rattle.ods_alloc.proofs.free.start_behind.Goals as goal

pub overflow_add-result : goal.overflow_add-result
overflow_add-result c =
    let some : 1 ≤ length c.args.blocks.now = omega (arith, c.if-count-eq0.false) in
    let last = last_at 0 c.args.blocks.now some in
    let few = c.requires in
    omega (arith, last, few)

pub returns : goal.returns
returns c =
    let some : 1 ≤ length c.args.blocks.now = omega (arith, c.if-count-eq0.false) in
    behind_last c.args.blocks.now some
