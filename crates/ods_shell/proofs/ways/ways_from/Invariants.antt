use Rattle.std.proofs.Common.{take}
use Rattle.ods_shell.specs.Choosing.{AreThose}
use Rattle.ods_shell.specs.Ways.{LeadsOn}
use Rattle.ods_shell.proofs.ways.ways_from.Given as goal

abbrev pub invariant-loop-line : goal.invariant-loop-line
invariant-loop-line l = AreThose (LeadsOn l.disk.image.now l.disk.layout.now) (take l.line-index l.line-items) l.ways.items
