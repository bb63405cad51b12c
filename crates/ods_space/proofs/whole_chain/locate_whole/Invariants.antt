use Rattle.std.proofs.Common.{◌≡◌, ◌-◌, length}
use Rattle.std.specs.Prelude.{slice_get}
use Rattle.ods_space.specs.Chain.{headers_of, named_by}
use Rattle.ods_space.proofs.whole_chain.locate_whole.Given as goal

abbrev pub invariant-loop-header : goal.invariant-loop-header
invariant-loop-header l = slice_get (named_by (headers_of l.fn.disk.image.now l.fn.disk.layout.now l.number)) (l.vbn - 1) ≡ slice_get (named_by l.headers) l.index

abbrev pub decreases-loop-header : goal.decreases-loop-header
decreases-loop-header l = length l.headers
