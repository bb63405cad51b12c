use Rattle.std.proofs.Common.{◌-◌}
use Rattle.ods_header.specs.Header.{segment_of}
use Rattle.ods_remains.specs.Deleted.{LeadsOn, former}
use Rattle.ods_remains.proofs.Following.{IsFollowed}
use Rattle.ods_remains.proofs.fronts.follow_front.Given as goal

abbrev pub invariant-loop-next : goal.invariant-loop-next
invariant-loop-next l =
    let I = l.fn.disk.image.now in
    let L = l.fn.disk.layout.now in
    IsFollowed (former I L) (LeadsOn I L) (LeadsOn I L) l.first l.file.headers.items l.file.blocks.items l.file.is_cut l.at

abbrev pub decreases-loop-next : goal.decreases-loop-next
decreases-loop-next l = 256 - segment_of (former l.fn.disk.image.now l.fn.disk.layout.now l.at)
