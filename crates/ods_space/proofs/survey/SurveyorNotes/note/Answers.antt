use Rattle.std.proofs.Common.{arith}
use Rattle.ods_space.proofs.Surveys.{one_more_passed, all_passed}
use Rattle.ods_space.proofs.survey.SurveyorNotes.note.Goals as goal

pub loop-k-preserved : goal.loop-k-preserved
loop-k-preserved c =
    let s = c.args.self.now in
    one_more_passed s.len s.wanted s.survey c.loop-k.survey c.with_run-survey.result c.args.block.now c.loop-k.k c.pointer_at.result c.loop-k.invariant c.pointer_at.ensures.value
    c.with_run-survey.ensures.noted c.with_run-survey.ensures.count

pub returns : goal.returns
returns c start blocks before =
    let s = c.args.self.now in
    (before.0, before.1, before.2, all_passed s.len s.wanted s.survey c.loop-k.survey c.args.block.now c.loop-k.k c.loop-k.invariant (omega (arith, c.pointer_count-k-end.ensures.count, c.loop-k-test.false)) blocks before.3)
