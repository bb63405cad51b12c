use Rattle.std.proofs.Common.{◌≡◌, length}
use Rattle.ods_mount.specs.Checks.{IsPassed}
use Rattle.ods_mount.proofs.Passing.{IsAlong}
use Rattle.ods_mount.proofs.file_blocks.check_blocks.Given as goal

abbrev pub invariant-loop-header : goal.invariant-loop-header
invariant-loop-header l = record {
  passed : IsPassed l.fn.disk.image.now l.fn.disk.layout.now l.home_lbn l.number l.first l.held;
  along : IsAlong l.fn.disk.image.now l.fn.disk.layout.now l.number l.first l.headers;
  room : length l.held ≡ length l.initial.held;
}

abbrev pub decreases-loop-header : goal.decreases-loop-header
decreases-loop-header l = length l.headers
