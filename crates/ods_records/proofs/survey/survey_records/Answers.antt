use Rattle.std.proofs.Common.{◌≡◌, ap, Ok}
use Rattle.ods_records.specs.declared.survey.Survey.{Survey}
use Rattle.ods_records.proofs.Standing.{fault_spells}
use Rattle.ods_records.proofs.Surveyed.{surveyed_record, surveyed_unused, surveyed_only}
use Rattle.ods_records.proofs.survey.survey_records.Goals as goal

pub returns-in-Err-clause-only : goal.returns-in-Err-clause-only
returns-in-Err-clause-only c = λ records spelled.
    absurd (fault_spells c.args.kind c.args.bytes.now c.loop-at.at c.in-Err.fault c.loop-at.invariant.standing records c.loop-at.invariant.before c.in-Err.ensures.err spelled)

pub loop-at-preserved-in-Some : goal.loop-at-preserved-in-Some
loop-at-preserved-in-Some c =
    surveyed_record c.args.kind c.args.bytes.now c.loop-at.at c.loop-at.survey c.with-survey.result c.in-Some.record.now c.in-Ok.found.1 c.loop-at.invariant
    (rw c.in-Some.is at c.in-Ok.ensures.ok) c.with-survey.ensures.longest c.with-survey.ensures.lines c.with-survey.ensures.printable

pub loop-at-preserved : goal.loop-at-preserved
loop-at-preserved c =
    surveyed_unused c.args.kind c.args.bytes.now c.loop-at.at c.loop-at.survey c.in-Ok.found.1 c.loop-at.invariant (rw c.in_default.is at c.in-Ok.ensures.ok)

pub returns-clause-only : goal.returns-clause-only
returns-clause-only c = λ records spelled.
    ap (λ (s : Survey). Ok s) (surveyed_only c.args.kind c.args.bytes.now c.loop-at.at c.loop-at.survey c.loop-at.invariant c.loop-at-test.false records spelled)
