use Rattle.fs_words.proofs.protections.read_classes.Goals as goal

pub returns-in_err-system : goal.returns-in_err-system
returns-in_err-system c = rw c.from_residual.ensures (λ y p. c.in_err-system.ensures _ p)
