use Rattle.std.proofs.Common.{length}
use Rattle.ods_space.specs.Chain.{headers_of}
use Rattle.ods_change.proofs.ChainCuts.{AreShort}
use Rattle.ods_change.proofs.truncate_file.walked_place.Given as goal

abbrev pub invariant-loop-at : goal.invariant-loop-at
invariant-loop-at l = AreShort (headers_of l.fn.disk.image.now l.fn.disk.layout.now l.number) l.headers l.count l.left

abbrev pub decreases-loop-at : goal.decreases-loop-at
decreases-loop-at l = length l.headers
