use Rattle.std.proofs.Common.{◌∙◌, ap, length, not, subst}
use Rattle.ods_shell.specs.Facts.{HasCondition, facts_in}
use Rattle.ods_shell.proofs.former.facts_left.Goals as goal

pub returns : goal.returns
returns c =
    let condition = c.condition_left-condition.result in
    let there = subst (λ xs. HasCondition (length c.args.disk.now.image.now) xs (not c.args.chain.now.is_cut) condition) c.deref.ensures.value c.condition_left-condition.ensures in
    (condition, there, c.facts_in.ensures ∙ ap (λ h. facts_in c.args.number h c.args.blocks condition) c.in-Some.ensures.1)
