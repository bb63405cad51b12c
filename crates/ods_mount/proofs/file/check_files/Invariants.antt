use Rattle.std.proofs.Common.{ℕ, ◌*◌, ◌<◌, ◌≤◌, length}
use Rattle.ods_space.specs.Files.{IsFile, Holds}
use Rattle.ods_mount.specs.Checks.{IsCheckedFile, HasHeader}
use Rattle.ods_mount.specs.Tables.{IsTable}
use Rattle.ods_mount.proofs.file.check_files.Given as goal

abbrev pub invariant-loop-number : goal.invariant-loop-number
invariant-loop-number l = record {
  files : (n : ℕ) → n < l.number → IsFile l.fn.disk.image.now l.fn.disk.layout.now n → IsCheckedFile l.fn.disk.image.now l.fn.disk.layout.now l.home_lbn n;
  numbers : 65536 ≤ 64 * length l.named;
  named : IsTable (HasHeader l.fn.disk.image.now l.fn.disk.layout.now) l.number l.named;
  room : length l.fn.disk.image.now ≤ 64 * length l.held;
  table : IsTable (Holds l.fn.disk.image.now l.fn.disk.layout.now) l.number l.held;
}
