use Rattle.std.proofs.Common.{◌≡◌, ℕ, List}
use Rattle.std.specs.List.{range_with_len}
use Rattle.f11fs.specs.Plans.{AreTold, IsToldOfLeft, Tells}
use Rattle.f11fs.proofs.telling.add_left.Given as goal

abbrev pub invariant-loop-past : goal.invariant-loop-past
invariant-loop-past l = (l.plan.json ≡ l.initial.plan.json) × ((told : List ℕ) × AreTold (IsToldOfLeft l.initial.plan.json l.before l.old l.after l.new) (range_with_len 1 l.past) told × Tells l.initial.plan told l.plan)
