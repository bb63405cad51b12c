use Rattle.std.proofs.Common.{take}
use Rattle.ods_paths.specs.Views.{files}
use Rattle.ods_shell.specs.Choosing.{AreThose, IsChosen}
use Rattle.ods_shell.proofs.choosing.chosen.Given as goal

abbrev pub invariant-loop-place : goal.invariant-loop-place
invariant-loop-place l = AreThose (IsChosen (files l.files) l.unsaid l.lines) (take l.place l.lines) l.found.items
