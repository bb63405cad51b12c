use Rattle.std.proofs.Common.{◌≡◌, ◌*◌, length, ap, arith}
use Rattle.ods_order.specs.Order.{container_size}
use Rattle.ods_order.proofs.Blocks.{has_room}
use Rattle.ods_order.proofs.reading.read_volume.Goals as goal

pub put_blocks-requires : goal.put_blocks-requires
put_blocks-requires c =
    let size : length c.args.container.now ≡ container_size c.args.order = omega (arith, c.container_size.ensures) in
    let made = c.in-Ok.ensures.ok in
    record { size = size; blocks = has_room c.args.order c.args.container.now c.in-Ok.image (512 * c.block_count.result) size (ap (λ n. 512 * n) c.block_count.ensures.value) made.0 made.1 }
