-- What is read of the rest is what is read of all.
use Rattle.std.proofs.Common.{drop}
use Rattle.f11fs.specs.Readings.{MayAddReadings}
use Rattle.f11fs.specs.declared.early.Early.{Early}
use Rattle.f11fs.proofs.early.Early.read_all.Given as goal

abbrev pub invariant-loop-path : goal.invariant-loop-path
invariant-loop-path g l = (new : Early) → MayAddReadings (g.R.Host.gives l.rt) (drop l.path-index l.paths) l.self new → MayAddReadings (g.R.Host.gives l.rt) l.paths l.initial.self new
