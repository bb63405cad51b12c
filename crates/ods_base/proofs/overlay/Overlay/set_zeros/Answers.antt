use Rattle.std.proofs.Common.{rules, length, ap}
use Rattle.ods_base.specs.Block.{zeros}
use Rattle.ods_base.proofs.Blocks.{IsBlock-zeros}
use Rattle.ods_base.proofs.Overlays.{length-overlaid, held_set}
use Rattle.ods_base.proofs.overlay.Overlay.set_zeros.Goals as goal

pub put_zeros-requires-clause-inside : goal.put_zeros-requires-clause-inside
put_zeros-requires-clause-inside c =
    let i = c.self.inside in
    let size = length-overlaid i.base i.seats.items i.own.items in
    let was = ap length c.self.view_is in
    search (rules, size, was)

pub put_zeros-requires-clause-seat_room : goal.put_zeros-requires-clause-seat_room
put_zeros-requires-clause-seat_room c = rw c.len-count.ensures.value c.self.invariant.seat_room

pub put_zeros-requires-clause-overlay : goal.put_zeros-requires-clause-overlay
put_zeros-requires-clause-overlay c = rw c.len-count.ensures.value c.self.invariant.overlay

pub invariant_of-self : goal.invariant_of-self
invariant_of-self c =
    let i = c.self.inside in
    let put = c.put_zeros in
    held_set i.base i.seats.items put.new.seats.items i.own.items put.new.own.items _ _ _ _ c.len-count.result c.args.lbn zeros c.self.invariant IsBlock-zeros
    c.len-count.ensures.value (put.ensures.changed i.base) put.ensures.overlay put.ensures.seat_room put.ensures.room
