use Rattle.std.proofs.Common.{ℕ, ◌<◌}
use Rattle.ods_records.specs.Near.{IsOdd}
use Rattle.ods_records.proofs.near.first_odd.Given as goal

abbrev pub invariant-loop-at : goal.invariant-loop-at
invariant-loop-at l = (k : ℕ) → k < l.at → IsOdd l.text k → ⊥
