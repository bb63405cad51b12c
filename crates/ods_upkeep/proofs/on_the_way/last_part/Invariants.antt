use Rattle.std.proofs.Common.{length}
use denote.Shadow.{shadow}
use denote.Text.{Utf8}
use Rattle.ods_upkeep.proofs.WaysMade.{Reaches}
use Rattle.ods_upkeep.proofs.on_the_way.last_part.Given as goal

abbrev pub invariant-loop-behind : goal.invariant-loop-behind
invariant-loop-behind l = record { text : shadow (Utf8 l.rest); reaches : Reaches l.path l.rest }

abbrev pub decreases-loop-behind : goal.decreases-loop-behind
decreases-loop-behind l = length l.rest
