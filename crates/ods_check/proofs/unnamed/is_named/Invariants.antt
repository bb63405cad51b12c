use Rattle.ods_check.specs.Findings.{IsLineOf}
use Rattle.ods_check.proofs.NamedLines.{NoneBefore}
use Rattle.ods_check.proofs.unnamed.is_named.Given as goal

abbrev pub invariant-loop-i : goal.invariant-loop-i
invariant-loop-i l = NoneBefore (IsLineOf l.words l.number l.sequence) l.lines l.i
