use Rattle.std.proofs.Common.{◌*◌, ◌≤◌, length}
use Rattle.ods_check.specs.Findings.{NamesFile}
use Rattle.ods_check.proofs.Noting.{IsOfFiles}
use Rattle.ods_check.proofs.lost_list.named_files.Given as goal

abbrev pub invariant-loop-number : goal.invariant-loop-number
invariant-loop-number l = record {
  files : IsOfFiles (NamesFile l.fn.disk.image.now l.fn.disk.layout.now) l.number l.named;
  room : 65536 ≤ 64 * length l.named;
}
