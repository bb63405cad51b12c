-- What is known of the files so far.
use Rattle.std.proofs.Common.{take}
use Rattle.ods_shell.specs.Versioned.{AreKnownOf}
use Rattle.ods_shell.proofs.versioned.Versioned.of.Given as goal

abbrev pub invariant-loop-file : goal.invariant-loop-file
invariant-loop-file l = AreKnownOf (take l.file-index l.files) l.all
