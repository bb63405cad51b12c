use Rattle.std.proofs.Common.{◌≡◌, ◌<◌, ◌↔◌, ℕ}
use Rattle.ods_base.specs.Block.{byte}
use Rattle.ods_base.proofs.block.Block.is_zeros.Given as goal

abbrev pub invariant-loop-i : goal.invariant-loop-i
invariant-loop-i l = (l.most ≡ 0) ↔ ((k : ℕ) → k < l.i → byte l.self k ≡ 0)
