use Rattle.std.proofs.Common.{◌≡◌, ℕ, List, take}
use Rattle.fs_reads.specs.Paths.{AreInOrder}
use Rattle.f11fs.specs.Plans.{AreTold, IsToldOfOld, Tells}
use Rattle.f11fs.proofs.telling.add_gone.Given as goal

abbrev pub invariant-loop-one : goal.invariant-loop-one
invariant-loop-one l = (l.plan.json ≡ l.initial.plan.json) × (AreInOrder l.new → (told : List ℕ) × AreTold (IsToldOfOld l.initial.plan.json l.new) (take l.one-index l.old) told × Tells l.initial.plan told l.plan)
