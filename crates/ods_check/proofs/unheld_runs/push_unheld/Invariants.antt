use Rattle.ods_check.specs.Findings.{IsHeldByNone, unheld_line}
use Rattle.ods_check.proofs.Running.{Finds}
use Rattle.ods_check.proofs.unheld_runs.push_unheld.Given as goal

abbrev pub invariant-loop-lbn : goal.invariant-loop-lbn
invariant-loop-lbn l = Finds (IsHeldByNone l.fn.disk.image.now l.fn.disk.layout.now) unheld_line l.initial.findings l.findings l.start l.lbn
