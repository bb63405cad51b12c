use Rattle.std.proofs.Common.{◌<◌, ◌≤◌, ◌-◌, length}
use Rattle.ods_alloc.specs.Bitmaps.{place_in}
use Rattle.ods_alloc.proofs.Recounted.{ArePartlyNew}
use Rattle.ods_alloc.proofs.counting.recount.Given as goal

abbrev pub invariant-loop-k : goal.invariant-loop-k
invariant-loop-k l = record { partly : ArePartlyNew l.fn.disk.image.now l.draft l.fn.disk.layout.now l.bitmap l.k l.counts; within : l.k ≤ l.size; inside : l.k < l.size → place_in l.fn.disk.layout.now l.bitmap l.k < length l.fn.disk.image.now }

abbrev pub decreases-loop-k : goal.decreases-loop-k
decreases-loop-k l = l.size - l.k
