use Rattle.std.proofs.Common.{sym, subst}
use Rattle.std.specs.Prelude.{MatchResult}
use Rattle.ods_paths.specs.Paths.{Within}
use Rattle.ods_paths.specs.Views.{folder, said_files}
use Rattle.ods_upkeep.specs.Target.{IsNoTargetOf, IsTargetOf}
use Rattle.ods_upkeep.proofs.Naming.{whether_all}
use Rattle.ods_upkeep.proofs.targets.target_within.Goals as goal

pub returns-in-Some : goal.returns-in-Some
returns-in-Some c =
    let I = c.args.volume.now.image in
    let L = c.args.volume.now.layout in
    subst (λ o. MatchResult c.named_within.result (IsTargetOf I L c.args.text.now (Within (folder c.args.folder.now) (said_files o))) (IsNoTargetOf I L c.args.text.now (Within (folder c.args.folder.now) (said_files o)))) (sym c.in-Some.is)
    (whether_all _ c.named_within.result (λ to exact target. (exact, target)) c.named_within.ensures.exact c.named_within.ensures.target c.named_within.ensures.refused)
