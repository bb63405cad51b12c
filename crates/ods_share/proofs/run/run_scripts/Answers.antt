use Rattle.std.proofs.Common.{arith}
use Rattle.ods_share.specs.Scripts.{all_saw}
use Rattle.ods_share.proofs.Runs.{outcomes, outcomes_len}
use Rattle.ods_share.proofs.run.run_scripts.Goals as goal

pub returns-in-Ok-outcomes-clause-outcomes : goal.returns-in-Ok-outcomes-clause-outcomes
returns-in-Ok-outcomes-clause-outcomes g c =
    let is = c.in-Ok-outcomes.ensures in
    let told = c.in-Ok.ensures.ended in
    let n = outcomes_len _ _ is in
    (omega (arith, n, told.0, c.in-Ok-outcomes.all.ok.0, c.in-Ok.ended.ok.0), outcomes c.args.volume.mounted c.args.stamp (all_saw c.args.volume.entries) _ _ _ _ is told.1)
