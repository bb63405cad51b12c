use Rattle.std.proofs.Common.{◌≡◌, ℕ, List, take}
use Rattle.fs_reads.specs.Paths.{AreInOrder}
use Rattle.f11fs.specs.Plans.{AreTold, DifferBy, IsToldOfNew, Tells}
use Rattle.f11fs.proofs.telling.add_come.Given as goal

abbrev pub invariant-loop-one : goal.invariant-loop-one
invariant-loop-one l = (l.plan.json ≡ l.initial.plan.json) × (AreInOrder l.old → (told : List ℕ) × AreTold (IsToldOfNew l.initial.plan.json (λ a b d. DifferBy l.before a l.after b d) l.old) (take l.one-index l.new) told × Tells l.initial.plan told l.plan)
