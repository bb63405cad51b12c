use Rattle.std.proofs.Common.{◌≡◌, ◌+◌, ◌*◌, ◌≤◌, length}
use Rattle.ods_space.proofs.Surveys.{first_blocks}
use Rattle.ods_mount.specs.Checks.{IsPassed}
use Rattle.ods_mount.proofs.file_blocks.check_header_blocks.Given as goal

abbrev pub invariant-loop-k : goal.invariant-loop-k
invariant-loop-k l = record {
  passed : IsPassed l.fn.disk.image.now l.fn.disk.layout.now l.home_lbn l.number l.next l.held;
  next : l.next ≡ l.first + length (first_blocks l.header l.k);
  small : l.next ≤ l.first + 256 * l.k;
  room : length l.held ≡ length l.fn.held;
}
