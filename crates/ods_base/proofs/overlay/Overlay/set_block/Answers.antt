use Rattle.std.proofs.Common.{rules, length, ap}
use Rattle.ods_base.proofs.Overlays.{length-overlaid, held_set}
use Rattle.ods_base.proofs.overlay.Overlay.set_block.Goals as goal

pub put_block-requires-clause-inside : goal.put_block-requires-clause-inside
put_block-requires-clause-inside c =
    let i = c.self.inside in
    let size = length-overlaid i.base i.seats.items i.own.items in
    let was = ap length c.self.view_is in
    search (rules, size, was)

pub put_block-requires-clause-small : goal.put_block-requires-clause-small
put_block-requires-clause-small c =
    let few = c.len-count.ensures.image.size in
    search (rules, few)

pub put_block-requires-clause-seat_room : goal.put_block-requires-clause-seat_room
put_block-requires-clause-seat_room c = rw c.len-count.ensures.value c.self.invariant.seat_room

pub put_block-requires-clause-room : goal.put_block-requires-clause-room
put_block-requires-clause-room c = rw c.len-count.ensures.value c.self.invariant.room

pub put_block-requires-clause-overlay : goal.put_block-requires-clause-overlay
put_block-requires-clause-overlay c = rw c.len-count.ensures.value c.self.invariant.overlay

pub invariant_of-self : goal.invariant_of-self
invariant_of-self c =
    let i = c.self.inside in
    let put = c.put_block in
    held_set i.base i.seats.items put.new.seats.items i.own.items put.new.own.items _ _ _ _ c.len-count.result c.args.lbn c.args.block.now c.self.invariant c.bytes.ensures.block
    c.len-count.ensures.value (put.ensures.changed i.base) put.ensures.overlay put.ensures.seat_room put.ensures.room
