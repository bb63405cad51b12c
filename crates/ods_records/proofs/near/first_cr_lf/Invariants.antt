use Rattle.std.proofs.Common.{ℕ, ◌<◌}
use Rattle.ods_records.specs.Near.{HasCrLf}
use Rattle.ods_records.proofs.near.first_cr_lf.Given as goal

abbrev pub invariant-loop-at : goal.invariant-loop-at
invariant-loop-at l = (k : ℕ) → k < l.at → HasCrLf l.text k → ⊥
