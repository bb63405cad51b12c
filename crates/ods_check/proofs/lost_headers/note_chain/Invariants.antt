use Rattle.std.proofs.Common.{◌≡◌, length}
use Rattle.ods_space.specs.Chain.{headers_of, numbers_of}
use Rattle.ods_check.proofs.Reaching.{IsReaching}
use Rattle.ods_check.proofs.lost_headers.note_chain.Given as goal

abbrev pub invariant-loop-header : goal.invariant-loop-header
invariant-loop-header l = record {
  reaching : IsReaching (numbers_of (headers_of l.fn.disk.image.now l.fn.disk.layout.now l.number)) l.initial.reached l.reached l.headers;
  room : length l.reached ≡ length l.initial.reached;
}

abbrev pub decreases-loop-header : goal.decreases-loop-header
decreases-loop-header l = length l.headers
