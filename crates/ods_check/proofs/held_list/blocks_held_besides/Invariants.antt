use Rattle.std.proofs.Common.{◌*◌, ◌≤◌, length}
use Rattle.ods_check.specs.HeldFree.{HoldsBesides}
use Rattle.ods_check.proofs.Noting.{IsOfFiles}
use Rattle.ods_check.proofs.held_list.blocks_held_besides.Given as goal

abbrev pub invariant-loop-number : goal.invariant-loop-number
invariant-loop-number l = record {
  files : IsOfFiles (HoldsBesides l.fn.disk.image.now l.fn.disk.layout.now l.fn.file) l.number l.held;
  room : length l.fn.disk.image.now ≤ 64 * length l.held;
}
