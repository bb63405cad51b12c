use Rattle.ods_repair.proofs.InTurn.{IsPartly}
use Rattle.ods_repair.proofs.asking.ask_all.Given as goal

abbrev pub invariant-loop-i : goal.invariant-loop-i
invariant-loop-i g l = IsPartly (g.P.Plan.request_of l.plan) l.initial.filing l.all l.i l.filing
