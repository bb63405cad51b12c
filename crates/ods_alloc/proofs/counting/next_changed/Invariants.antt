use Rattle.std.proofs.Common.{◌≤◌, ◌-◌}
use Rattle.ods_space.specs.Draft.{applied}
use Rattle.ods_alloc.specs.Bitmaps.{AreKept}
use Rattle.ods_alloc.proofs.counting.next_changed.Given as goal

abbrev pub invariant-loop-k : goal.invariant-loop-k
invariant-loop-k l = record { above : l.from ≤ l.k; within : l.k ≤ l.size; kept : AreKept l.fn.disk.image.now (applied l.fn.disk.image.now l.draft) l.fn.disk.layout.now l.bitmap l.from l.k }

abbrev pub decreases-loop-k : goal.decreases-loop-k
decreases-loop-k l = l.size - l.k
