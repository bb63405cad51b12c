use Rattle.std.proofs.Common.{◌≡◌, length}
use Rattle.ods_space.specs.Chain.{headers_of, numbers_of}
use Rattle.ods_mount.proofs.Sharing.{IsNaming}
use Rattle.ods_mount.proofs.apart.check_apart.Given as goal

abbrev pub invariant-loop-header : goal.invariant-loop-header
invariant-loop-header l = record {
  naming : IsNaming (numbers_of (headers_of l.fn.disk.image.now l.fn.disk.layout.now l.number)) l.initial.named l.named l.headers;
  room : length l.named ≡ length l.initial.named;
}

abbrev pub decreases-loop-header : goal.decreases-loop-header
decreases-loop-header l = length l.headers
