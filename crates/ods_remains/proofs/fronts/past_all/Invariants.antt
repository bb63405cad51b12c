use Rattle.std.proofs.Common.{◌<◌, ◌≤◌, ℕ, take}
use Rattle.std.specs.List.{Contains}
use Rattle.ods_remains.proofs.fronts.past_all.Given as goal

abbrev pub invariant-loop-lbn : goal.invariant-loop-lbn
invariant-loop-lbn l = (l.size ≤ l.past) × ((lbn : ℕ) → Contains (take l.lbn-index l.lbns) lbn → lbn < l.past)
