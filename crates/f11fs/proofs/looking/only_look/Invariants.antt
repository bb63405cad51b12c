use Rattle.std.specs.Prelude.{⊤}
use Rattle.f11fs.proofs.looking.only_look.Given as goal

abbrev pub invariant-loop-line : goal.invariant-loop-line
invariant-loop-line l = ⊤
