use Rattle.std.proofs.Common.{◌-◌, length}
use Rattle.ods_records.proofs.Surveyed.{HasSurveyed}
use Rattle.ods_records.proofs.survey.survey_records.Given as goal

abbrev pub invariant-loop-at : goal.invariant-loop-at
invariant-loop-at l = HasSurveyed l.kind l.bytes l.at l.survey

abbrev pub decreases-loop-at : goal.decreases-loop-at
decreases-loop-at l = length l.bytes - l.at
