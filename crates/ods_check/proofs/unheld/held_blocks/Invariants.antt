use Rattle.std.proofs.Common.{ℕ, ◌*◌, ◌≤◌, length}
use Rattle.ods_space.specs.Files.{Holds}
use Rattle.ods_check.proofs.Noting.{IsOfFiles}
use Rattle.ods_check.proofs.unheld.held_blocks.Given as goal

abbrev pub invariant-loop-number : goal.invariant-loop-number
invariant-loop-number l = record {
  files : IsOfFiles (λ m b. (v : ℕ) × Holds l.fn.disk.image.now l.fn.disk.layout.now m v b) l.number l.held;
  room : length l.fn.disk.image.now ≤ 64 * length l.held;
}
