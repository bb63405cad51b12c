use Rattle.std.proofs.Common.{◌*◌, ◌≤◌, length}
use Rattle.ods_check.specs.Findings.{HasAsHeader}
use Rattle.ods_check.proofs.Noting.{IsOfFiles}
use Rattle.ods_check.proofs.lost_headers.reached_headers.Given as goal

abbrev pub invariant-loop-number : goal.invariant-loop-number
invariant-loop-number l = record {
  files : IsOfFiles (HasAsHeader l.fn.disk.image.now l.fn.disk.layout.now) l.number l.reached;
  room : 65536 ≤ 64 * length l.reached;
}
