use Rattle.std.proofs.Common.{take}
use Rattle.ods_shell.specs.Choosing.{AreThose}
use Rattle.ods_paths.specs.Views.{step}
use Rattle.ods_shell.specs.Ways.{IsWayBy}
use Rattle.ods_shell.proofs.ways.ways_by.Given as goal

abbrev pub invariant-loop-place : goal.invariant-loop-place
invariant-loop-place l = AreThose (IsWayBy (step l.step) l.ways) (take l.place l.ways) l.those.items
