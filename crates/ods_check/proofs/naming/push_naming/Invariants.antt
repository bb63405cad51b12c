use Rattle.std.proofs.Common.{◌*◌, ◌≤◌, length}
use Rattle.ods_check.specs.Findings.{IsOtherFound, NamesFile}
use Rattle.ods_check.proofs.Noting.{IsOfFiles}
use Rattle.ods_check.proofs.Sweeping.{Sweeps}
use Rattle.ods_check.proofs.StillTold.{TellsNames}
use Rattle.ods_check.proofs.naming.push_naming.Given as goal

abbrev pub invariant-loop-number : goal.invariant-loop-number
invariant-loop-number l = record {
  told : Sweeps (IsOtherFound l.fn.disk.image.now l.fn.disk.layout.now) (TellsNames l.fn.disk.image.now l.fn.disk.layout.now) l.initial.findings l.findings l.number;
  files : IsOfFiles (NamesFile l.fn.disk.image.now l.fn.disk.layout.now) l.number l.named;
  room : 65536 ≤ 64 * length l.named;
}
