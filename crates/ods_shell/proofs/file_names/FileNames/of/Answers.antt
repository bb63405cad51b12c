use Rattle.ods_shell.proofs.file_names.FileNames.of.Goals as goal

pub returns : goal.returns
returns c = record { reached = c.in_ok-walk.ensures.reached; noted = c.in_ok-note_walk.ensures }
