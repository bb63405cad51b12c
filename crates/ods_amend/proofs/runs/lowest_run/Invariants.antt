-- The blocks below this one are looked at.
use Rattle.ods_amend.proofs.RunsFound.{IsSought}
use Rattle.ods_amend.proofs.runs.lowest_run.Given as goal

abbrev pub invariant-loop-at : goal.invariant-loop-at
invariant-loop-at l = IsSought l.fn.disk.image.now l.fn.disk.layout.now l.fn.blocks l.at l.from
