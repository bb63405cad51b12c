use Rattle.std.proofs.Common.{take}
use Rattle.ods_shell.specs.Choosing.{AreThose, IsPicked}
use Rattle.ods_shell.proofs.matched.pick_lines.Given as goal

abbrev pub invariant-loop-place : goal.invariant-loop-place
invariant-loop-place l = AreThose (IsPicked l.versions l.lines) (take l.place l.lines) l.found.items
