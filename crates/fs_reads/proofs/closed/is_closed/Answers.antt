use Rattle.fs_reads.proofs.closed.is_closed.Goals as goal

pub returns-in-None : goal.returns-in-None
returns-in-None c = λ is. c.in-None.ensures is.1.file
