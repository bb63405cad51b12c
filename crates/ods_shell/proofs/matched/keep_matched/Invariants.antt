use Rattle.std.proofs.Common.{take}
use Rattle.ods_paths.specs.Views.{files}
use Rattle.ods_shell.specs.Choosing.{AreThose}
use Rattle.ods_shell.specs.Matched.{IsMatchedLine}
use Rattle.ods_shell.proofs.matched.keep_matched.Given as goal

abbrev pub invariant-loop-entry : goal.invariant-loop-entry
invariant-loop-entry l = AreThose (IsMatchedLine (files l.files)) (take l.entry-index l.entries) l.those.items
