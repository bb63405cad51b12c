use Rattle.std.proofs.Common.{◌-◌}
use Rattle.ods_base.specs.Image.{block_at}
use Rattle.ods_header.specs.Header.{segment_of}
use Rattle.ods_remains.specs.Candidates.{GoesOn, IsNext}
use Rattle.ods_remains.proofs.Following.{IsFollowed}
use Rattle.ods_remains.proofs.scan.Scan.follow.Given as goal

abbrev pub invariant-loop-next : goal.invariant-loop-next
invariant-loop-next l = IsFollowed (block_at l.self) (GoesOn l.self) (IsNext l.self) l.first l.file.headers.items l.file.blocks.items l.file.is_cut l.at

abbrev pub decreases-loop-next : goal.decreases-loop-next
decreases-loop-next l = 256 - segment_of (block_at l.self l.at)
