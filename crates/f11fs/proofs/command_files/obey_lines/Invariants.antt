use Rattle.std.proofs.Common.{map}
use Rattle.f11fs.specs.Changed.{AreAllDone}
use Rattle.f11fs.specs.Given.{AreTaken}
use Rattle.f11fs.proofs.command_files.obey_lines.Given as goal

abbrev pub invariant-loop-line : goal.invariant-loop-line
invariant-loop-line g l = AreTaken (g.R.Host.gives l.rt) l.early × AreAllDone (g.R.Host.gives l.rt) l.run.outer.now.image l.run.asker.stamp l.run.asker.user l.run.keep_going (map (λ x. x.now) l.yielded) l.status l.initial.filing l.filing
