use Rattle.std.proofs.Common.{length}
use Rattle.ods_space.specs.Chain.{headers_of}
use Rattle.ods_alloc.proofs.EndWalks.{IsPassed}
use Rattle.ods_alloc.proofs.end.ChainEnd.of.Given as goal

abbrev pub invariant-loop-at : goal.invariant-loop-at
invariant-loop-at l = IsPassed (l.number, l.first) (headers_of l.fn.disk.image.now l.fn.disk.layout.now l.number) l.headers l.count l.blocks (l.end, l.last)

abbrev pub decreases-loop-at : goal.decreases-loop-at
decreases-loop-at l = length l.headers
