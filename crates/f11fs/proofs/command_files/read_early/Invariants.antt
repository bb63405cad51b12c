use Rattle.f11fs.specs.Given.{AreTaken}
use Rattle.f11fs.proofs.command_files.read_early.Given as goal

-- what was read is what the host files give
abbrev pub invariant-loop-line : goal.invariant-loop-line
invariant-loop-line g l = AreTaken (g.R.Host.gives l.rt) l.early
