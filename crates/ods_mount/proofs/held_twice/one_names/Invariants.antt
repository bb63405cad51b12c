use Rattle.std.proofs.Common.{length}
use Rattle.ods_space.specs.Chain.{headers_of}
use Rattle.ods_mount.proofs.Naming.{IsSought}
use Rattle.ods_mount.proofs.held_twice.one_names.Given as goal

abbrev pub invariant-loop-header : goal.invariant-loop-header
invariant-loop-header l = IsSought l.lbn (headers_of l.fn.disk.image.now l.fn.disk.layout.now l.number) l.headers

abbrev pub decreases-loop-header : goal.decreases-loop-header
decreases-loop-header l = length l.headers
