use Rattle.ods_space.proofs.Surveys.{IsPassed}
use Rattle.ods_space.proofs.survey.SurveyorNotes.note.Given as goal

abbrev pub invariant-loop-k : goal.invariant-loop-k
invariant-loop-k l = IsPassed l.self.len l.self.wanted l.self.survey l.survey l.block l.k
