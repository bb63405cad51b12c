use Rattle.std.proofs.Common.{◌≡◌, ◌∙◌, rules, true}
use Rattle.ods_upkeep.proofs.Stopping.{no_path}
use Rattle.ods_upkeep.proofs.putting.highest_versions.Goals as goal

pub returns-in-Err : goal.returns-in-Err
returns-in-Err c =
    let is : c.args.is_wanted ≡ true = search (rules, c.if-not-is_wanted.false) in
    (is, no_path c.of_path.result c.of_path.ensures.path (c.of_path.ensures.why ∙ c.into.ensures))
