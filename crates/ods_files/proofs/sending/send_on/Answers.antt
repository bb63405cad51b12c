use Rattle.std.proofs.Common.{take}
use Rattle.ods_files.proofs.Sends.{held_on}
use Rattle.ods_files.proofs.sending.send_on.Goals as goal

pub returns-clause-ok : goal.returns-clause-ok
returns-clause-ok g c start bytes at way more =
    let contents = g.W.Write.contents in
    held_on bytes start (contents c.make_room.new.writer) at c.in-Ok.after c.args.count c.make_room.new.piece.items (take c.args.count c.args.block.now) c.hold_back.new.piece.items
    (c.in-Ok.ensures.ok start bytes at way) more c.hold_back.ensures.long c.hold_back.ensures.taken
