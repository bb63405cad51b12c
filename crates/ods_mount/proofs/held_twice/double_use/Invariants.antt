use Rattle.std.proofs.Common.{ℕ, ◌<◌}
use Rattle.ods_space.specs.Files.{Holds}
use Rattle.ods_mount.proofs.held_twice.double_use.Given as goal

abbrev pub invariant-loop-other : goal.invariant-loop-other
invariant-loop-other l = (m v : ℕ) → m < l.other → ¬ Holds l.fn.disk.image.now l.fn.disk.layout.now m v l.lbn
