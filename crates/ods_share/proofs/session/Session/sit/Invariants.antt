use Rattle.std.proofs.Common.{◌+◌, ◌<◌, ◌≤◌, List, drop, take, length}
use Rattle.std.specs.Vec.{vec_capacity}
use Rattle.ods_ask.specs.declared.outcome.Reply.{Reply}
use Rattle.ods_share.specs.Sittings.{sitting, room_for}
use Rattle.ods_share.specs.Scripts.{Runs, fulls_of, start}
use Rattle.ods_share.proofs.session.Session.sit.Given as goal

abbrev pub invariant-loop-command : goal.invariant-loop-command
invariant-loop-command g l =
    (length l.ended.calls.items + room_for (drop l.command-index l.script) ≤ vec_capacity l.ended.calls)
    × (0 < l.chair.fulls.parts)
    × ((rs : List Reply) × Runs g.J.Naming.mounted l.self.stamp (start l.fn.chair.viewer.seen) (take l.command-index l.script) rs (sitting l.context l.ended.calls.items l.chair.viewer.seen)
    × g.K.Keep.keeps (take l.command-index l.script) rs l.ended.kept × (fulls_of rs ≤ l.chair.fulls.amount))
