use Rattle.ods_check.specs.Lists.{AddsEach}
use Rattle.ods_check.proofs.Sweeping.{Below}
use Rattle.ods_check.proofs.sweep.push_each.Given as goal

abbrev pub invariant-loop-number : goal.invariant-loop-number
invariant-loop-number g l =
    AddsEach (Below (g.S.Sought.is l.sought l.fn.disk.image.now l.fn.disk.layout.now) l.number) (g.S.Sought.line_of l.fn.disk.image.now l.fn.disk.layout.now) l.initial.told l.told
