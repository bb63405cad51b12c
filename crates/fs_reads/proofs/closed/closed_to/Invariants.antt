use Rattle.fs_reads.specs.Denied.{IsClosedTo}
use Rattle.fs_reads.proofs.Closing.{AreThoseUpTo}
use Rattle.fs_reads.proofs.closed.closed_to.Given as goal

abbrev pub invariant-loop-before : goal.invariant-loop-before
invariant-loop-before l = AreThoseUpTo (IsClosedTo l.disk.image.now l.disk.layout.now l.user) l.before l.closed.items
