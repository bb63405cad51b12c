use Rattle.ods_paths.proofs.RowLoops.{IsTaking}
use Rattle.ods_paths.proofs.matching.take_one.Given as goal

abbrev pub invariant-loop-place : goal.invariant-loop-place
invariant-loop-place l = IsTaking l.character l.text l.fn.row l.row l.place
