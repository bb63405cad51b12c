use Rattle.std.proofs.Common.{◌≡◌, ℕ, ◌<◌}
use Rattle.ods_base.specs.Image.{block_at}
use Rattle.ods_base.proofs.fixed.FixedImage.is.Given as goal

abbrev pub invariant-loop-lbn : goal.invariant-loop-lbn
invariant-loop-lbn l = (k : ℕ) → k < l.lbn → block_at l.image k ≡ block_at l.self k
