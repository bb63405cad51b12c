use Rattle.ods_check.specs.Findings.{IsOtherFound, TellsHeader}
use Rattle.ods_check.proofs.Sweeping.{Sweeps}
use Rattle.ods_check.proofs.headers.push_bad_headers.Given as goal

abbrev pub invariant-loop-number : goal.invariant-loop-number
invariant-loop-number l = Sweeps (IsOtherFound l.fn.disk.image.now l.fn.disk.layout.now) (TellsHeader l.fn.disk.image.now l.fn.disk.layout.now) l.initial.findings l.findings l.number
