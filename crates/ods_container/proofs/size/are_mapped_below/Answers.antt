use Rattle.std.proofs.Common.{arith}
use Rattle.ods_container.proofs.Sizes.{not_mapped}
use Rattle.ods_container.proofs.size.are_mapped_below.Goals as goal

pub returns-then-not-is_mapped_below : goal.returns-then-not-is_mapped_below
returns-then-not-is_mapped_below c =
    let low = c.loop-number-test.true in
    let within = c.loop-number.auto.number-end in
    not_mapped c.args.disk.now.image.now c.args.disk.now.layout.now c.args.size c.loop-number.number c.last_number.result c.last_number.ensures (omega arith) c.if-not-is_mapped_below.ensures
