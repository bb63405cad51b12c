use Rattle.std.proofs.Common.{◌+◌, ◌-◌, ◌*◌, ◌%◌, ◌<◌, ◌≤◌, length, ap, ◌∙◌, arith}
use Rattle.ods_order.proofs.Volumes.{sector_in_block, sector_behind}
use Rattle.ods_order.proofs.writing.sector.Goals as goal

pub returns-then-at-end-clause-value : goal.returns-then-at-end-clause-value
returns-then-at-end-clause-value c =
    let z = c.sector_size-size.result in
    let from = z * c.args.n % 512 in
    let within : z * c.args.n < 512 * length c.args.image.now = omega (arith, c.if-at-end.true, c.len.ensures.value) in
    sector_in_block c.args.order c.args.image.now c.args.behind.now c.bytes.result.now c.args.n z (from + z - from) c.sector_size-size.ensures (omega arith) (c.bytes.ensures.value ∙ c.block-block.ensures.value)
    c.len.ensures.image within c.requires.inside

pub returns-clause-value : goal.returns-clause-value
returns-clause-value c =
    let z = c.sector_size-size.result in
    let end = 512 * c.len.result in
    let from = z * c.args.n - end in
    let past : end ≤ z * c.args.n = omega (arith, c.if-at-end.false) in
    sector_behind c.args.order c.args.image.now c.args.behind.now c.args.n z (from + z - from) end c.sector_size-size.ensures (omega arith) (ap (λ m. 512 * m) c.len.ensures.value) c.len.ensures.image past
