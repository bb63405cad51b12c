use Rattle.ods_shell.specs.Choosing.{AreThose}
use Rattle.ods_shell.specs.Named.{IsNoDirectory}
use Rattle.ods_shell.proofs.alone.without_directories.Given as goal

abbrev pub invariant-loop-found : goal.invariant-loop-found
invariant-loop-found l = AreThose IsNoDirectory l.yielded l.files.items
