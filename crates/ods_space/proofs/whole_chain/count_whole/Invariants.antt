use Rattle.std.proofs.Common.{◌≡◌, ◌+◌, length}
use Rattle.ods_space.specs.Chain.{headers_of, named_by}
use Rattle.ods_space.proofs.whole_chain.count_whole.Given as goal

abbrev pub invariant-loop-header : goal.invariant-loop-header
invariant-loop-header l = length (named_by (headers_of l.fn.disk.image.now l.fn.disk.layout.now l.number)) ≡ l.count + length (named_by l.headers)

abbrev pub decreases-loop-header : goal.decreases-loop-header
decreases-loop-header l = length l.headers
