use Rattle.ods_init.proofs.LabelMade.{IsPartOf}
use Rattle.ods_init.proofs.label.Label.parse.Given as goal

abbrev pub invariant-loop-i : goal.invariant-loop-i
invariant-loop-i l = IsPartOf l.given l.own l.i
