use Rattle.std.proofs.Common.{ℕ, ◌<◌}
use Rattle.ods_container.specs.Size.{IsMappedBelow}
use Rattle.ods_container.proofs.size.are_mapped_below.Given as goal

-- each header before this one maps only blocks below the size
abbrev pub invariant-loop-number : goal.invariant-loop-number
invariant-loop-number l = (n : ℕ) → n < l.number → IsMappedBelow l.fn.disk.image.now l.fn.disk.layout.now l.fn.size n
