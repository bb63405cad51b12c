use Rattle.std.proofs.Common.{length}
use denote.Shadow.{shadow}
use denote.Text.{Utf8}
use Rattle.std.specs.String.{string_bytes}
use Rattle.ods_upkeep.proofs.WaysMade.{Leads}
use Rattle.ods_upkeep.proofs.on_the_way.make_way.Given as goal

abbrev pub invariant-loop-part : goal.invariant-loop-part
invariant-loop-part l = record { text : shadow (Utf8 l.rest); leads : Leads l.stamp l.path l.rest (string_bytes l.way) l.initial.filing l.filing }

abbrev pub decreases-loop-part : goal.decreases-loop-part
decreases-loop-part l = length l.rest
