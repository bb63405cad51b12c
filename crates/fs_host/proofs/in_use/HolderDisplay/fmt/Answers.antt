-- A process with its name, and one whose name is no text.
use Rattle.std.proofs.Output.{has_written_of_eq}
use Rattle.fs_host.proofs.HolderTexts.{named_shown, unnamed_shown, process_shown}
use Rattle.fs_host.proofs.in_use.HolderDisplay.fmt.Goals as goal

pub returns-in-Ok-clause-writes : goal.returns-in-Ok-clause-writes
returns-in-Ok-clause-writes g c = λ plain done.
    has_written_of_eq _ _ _ _ _
    (process_shown c.args.self.now _ c.if-self.false (named_shown c.args.self.now c.in-Ok.name.now c.in-Ok.ensures.cases.0 c.in-Ok.ensures.cases.1))
    (c.write-in-Ok.ensures.writes plain done)

pub returns-in-Err-clause-writes : goal.returns-in-Err-clause-writes
returns-in-Err-clause-writes g c = λ plain done.
    has_written_of_eq _ _ _ _ _ (process_shown c.args.self.now _ c.if-self.false (unnamed_shown c.args.self.now c.in-Err.ensures.cases.0)) (c.write-in-Err.ensures.writes plain done)
