use Rattle.std.proofs.Common.{◌≤◌}
use Rattle.ods_check.specs.Findings.{IsCountOfStrays}
use Rattle.ods_check.proofs.strays.count_strays.Given as goal

abbrev pub invariant-loop-number : goal.invariant-loop-number
invariant-loop-number l = (l.strays.count ≤ l.number) × IsCountOfStrays l.fn.disk.image.now l.fn.disk.layout.now l.number l.strays.count l.strays.first
