use Rattle.std.proofs.Common.{◌-◌, length}
use Rattle.ods_records.proofs.LongRecords.{AreShort}
use Rattle.ods_records.proofs.long.first_long.Given as goal

abbrev pub invariant-loop-at : goal.invariant-loop-at
invariant-loop-at l = AreShort l.kind l.bytes l.most l.at

abbrev pub decreases-loop-at : goal.decreases-loop-at
decreases-loop-at l = length l.bytes - l.at
