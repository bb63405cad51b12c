use Rattle.std.proofs.Common.{◌*◌, ◌≤◌, length}
use Rattle.ods_check.specs.Sets.{IsSetOf}
use Rattle.ods_check.specs.Findings.{HasAsHeader}
use Rattle.ods_check.specs.Marks.{IsOfTwo}
use Rattle.ods_check.proofs.Noting.{IsOfFiles}
use Rattle.ods_check.proofs.shared_headers.shared_headers.Given as goal

abbrev pub invariant-loop-number : goal.invariant-loop-number
invariant-loop-number l = record {
  files : IsOfFiles (HasAsHeader l.fn.disk.image.now l.fn.disk.layout.now) l.number l.once;
  two : IsSetOf (IsOfTwo l.fn.disk.image.now l.fn.disk.layout.now l.number) l.twice;
  room : 65536 ≤ 64 * length l.once;
  same : 65536 ≤ 64 * length l.twice;
}
