use Rattle.std.proofs.Common.{◌≡◌, ◌<◌, ◌++◌, length}
use Rattle.std.specs.List.{All}
use Rattle.ods_space.specs.Chain.{headers_of, numbers_of}
use Rattle.ods_check.proofs.shared_headers.chain_numbers.Given as goal

abbrev pub invariant-loop-header : goal.invariant-loop-header
invariant-loop-header l = record {
  parts : numbers_of (headers_of l.fn.disk.image.now l.fn.disk.layout.now l.number) ≡ l.numbers.items ++ numbers_of l.headers;
  small : All (λ x. x < 65536) l.numbers.items;
}

abbrev pub decreases-loop-header : goal.decreases-loop-header
decreases-loop-header l = length l.headers
