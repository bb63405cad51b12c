use Rattle.std.proofs.Common.{◌-◌}
use Rattle.ods_header.specs.Header.{segment_of}
use Rattle.ods_remains.specs.Chains.{named_at}
use Rattle.ods_remains.specs.Deleted.{IsDeleted, LeadsOn, former}
use Rattle.ods_remains.proofs.Following.{IsFollowed}
use Rattle.ods_remains.proofs.left.chain_by.Given as goal

abbrev pub invariant-loop-next : goal.invariant-loop-next
invariant-loop-next l =
    let I = l.fn.disk.image.now in
    let L = l.fn.disk.layout.now in
    IsFollowed (former I L) (LeadsOn I L) (LeadsOn I L) l.first l.chain.headers.items (named_at (former I L) l.chain.headers.items) l.chain.is_cut l.at
    × IsDeleted I L l.at

abbrev pub decreases-loop-next : goal.decreases-loop-next
decreases-loop-next l = 256 - segment_of (former l.fn.disk.image.now l.fn.disk.layout.now l.at)
