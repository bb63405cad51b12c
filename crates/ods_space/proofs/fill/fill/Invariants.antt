use Rattle.std.proofs.Common.{◌+◌, ◌≤◌}
use Rattle.ods_space.proofs.Drafts.{IsFilled}
use Rattle.ods_space.proofs.fill.fill.Given as goal

abbrev pub invariant-loop-lbn : goal.invariant-loop-lbn
invariant-loop-lbn l = IsFilled l.initial.image l.image l.filling.0 l.run.lbn l.lbn × (l.lbn ≤ l.run.lbn + l.run.count)
