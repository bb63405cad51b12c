use Rattle.std.proofs.Common.{◌≡◌, ◌∙◌, rules, true}
use Rattle.ods_upkeep.proofs.Stopping.{no_path}
use Rattle.ods_upkeep.proofs.putting.count_names.Goals as goal

pub returns-in-Err : goal.returns-in-Err
returns-in-Err c =
    let is : c.args.replace ≡ true = search (rules, c.if-not-replace.false) in
    (is, no_path c.of_path.result c.of_path.ensures.path (c.of_path.ensures.why ∙ c.into.ensures))
