use Rattle.std.proofs.Common.{◌≡◌, ◌+◌, length}
use Rattle.ods_mount.specs.Checks.{IsPassed}
use Rattle.ods_mount.proofs.file_blocks.check_run.Given as goal

abbrev pub invariant-loop-j : goal.invariant-loop-j
invariant-loop-j l = record {
  passed : IsPassed l.fn.disk.image.now l.fn.disk.layout.now l.home_lbn l.number (l.first + l.j) l.held;
  room : length l.held ≡ length l.fn.held;
}
