use Rattle.ods_upkeep.proofs.Below.{NoneBefore}
use Rattle.ods_upkeep.proofs.moving.has_entered.Given as goal

abbrev pub invariant-loop-place : goal.invariant-loop-place
invariant-loop-place l = NoneBefore l.walk.directories l.place l.number
