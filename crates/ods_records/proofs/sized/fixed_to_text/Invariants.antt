use Rattle.std.proofs.Common.{length, ◌-◌}
use Rattle.ods_records.proofs.SizedLines.{HasLines}
use Rattle.ods_records.proofs.sized.fixed_to_text.Given as goal

abbrev pub invariant-loop-at : goal.invariant-loop-at
invariant-loop-at l = HasLines l.blocked l.size l.bytes l.at l.text.items

abbrev pub decreases-loop-at : goal.decreases-loop-at
decreases-loop-at l = length l.bytes - l.at
