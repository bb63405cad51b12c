use Rattle.std.proofs.Common.{◌≡◌, ◌+◌, ◌-◌, ◌*◌, ◌/◌, List, ℕ, take, drop, ap, ◌∙◌, arith}
use Rattle.ods_order.specs.Order.{sector_size}
use Rattle.ods_order.specs.Volumes.{sector_at}
use Rattle.ods_order.proofs.Blocks.{gathered_next, all_gathered}
use Rattle.ods_order.proofs.reading.block_of.Goals as goal

pub loop-k-preserved : goal.loop-k-preserved
loop-k-preserved c =
    let at = c.place-at.result in
    let z = c.sector_size-size.result in
    let sector : List ℕ = take (at + z - at) (drop at c.args.container.now) in
    let size : at + z - at ≡ sector_size c.args.order = omega (arith, c.sector_size-size.ensures) in
    let here : sector ≡ sector_at c.args.order c.args.container.now (512 / z * c.args.lbn + c.loop-k.k) = λ i. take (size i) (drop (c.place-at.ensures.value i) c.args.container.now) in
    gathered_next c.args.order c.args.container.now c.args.lbn c.loop-k.k z c.loop-k.block sector c.set_bytes.new.self c.sector_size-size.ensures c.requires.size c.requires.inside c.loop-k-test.true here
    c.set_bytes.ensures.changed c.set_bytes.ensures.stays c.loop-k.invariant

pub returns-clause-value : goal.returns-clause-value
returns-clause-value c =
    let all : c.loop-k.k ≡ 512 / c.sector_size-size.result = omega (arith, c.loop-k-test.false, c.loop-k.auto.k-end) in
    all_gathered c.args.order c.args.container.now c.args.lbn c.loop-k.k c.loop-k.block (all ∙ ap (λ s. 512 / s) c.sector_size-size.ensures) c.loop-k.invariant
