use Rattle.ods_shell.specs.Space.{EndsRun}
use Rattle.ods_shell.proofs.Runs.{IsLongestTo}
use Rattle.ods_shell.proofs.space.longest_free.Given as goal

abbrev pub invariant-loop-lbn : goal.invariant-loop-lbn
invariant-loop-lbn l = EndsRun l.fn.disk.image.now l.fn.disk.layout.now l.lbn l.run × IsLongestTo l.fn.disk.image.now l.fn.disk.layout.now l.lbn l.longest
