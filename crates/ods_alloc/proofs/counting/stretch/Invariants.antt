use Rattle.std.proofs.Common.{◌-◌}
use Rattle.ods_alloc.specs.Bitmaps.{IsStretch}
use Rattle.ods_alloc.proofs.counting.stretch.Given as goal

abbrev pub invariant-loop-many : goal.invariant-loop-many
invariant-loop-many l = IsStretch l.layout l.bitmap l.k l.many

abbrev pub decreases-loop-many : goal.decreases-loop-many
decreases-loop-many l = l.size - l.many
