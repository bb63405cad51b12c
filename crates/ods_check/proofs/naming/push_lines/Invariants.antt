use Rattle.std.proofs.Common.{◌≡◌, length}
use Rattle.ods_check.specs.Findings.{IsOtherFound, NamesAt}
use Rattle.ods_check.proofs.Noting.{IsGrown}
use Rattle.ods_check.proofs.Sweeping.{Sweeps}
use Rattle.ods_check.proofs.StillTold.{TellsLine}
use Rattle.ods_check.proofs.naming.push_lines.Given as goal

abbrev pub invariant-loop-i : goal.invariant-loop-i
invariant-loop-i l = record {
  told : Sweeps (IsOtherFound l.fn.disk.image.now l.fn.disk.layout.now) (TellsLine l.fn.disk.image.now l.fn.disk.layout.now l.directory l.lines) l.initial.findings l.findings l.i;
  named : IsGrown (NamesAt l.fn.disk.image.now l.fn.disk.layout.now l.lines) l.initial.named l.i l.named;
  room : length l.named ≡ length l.initial.named;
}
