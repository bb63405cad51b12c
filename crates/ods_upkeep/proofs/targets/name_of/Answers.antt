use Rattle.ods_paths.specs.Patterns.{capitals}
use Rattle.ods_upkeep.proofs.NameTexts.{name_or_none, of_parts}
use Rattle.ods_upkeep.proofs.targets.name_of.Goals as goal

pub returns : goal.returns
returns c =
    let name = capitals c.args.name.now in
    let kind = capitals c.args.kind.now in
    name_or_none name kind c.deref.result.now c.spelled.result
    (of_parts c.new-text.result.items c.push_capitals.new.text.items c.push.new.self.items c.push_capitals-2.new.text.items c.deref.result.now name kind c.new-text.ensures.items c.in_ok-push_capitals.ensures c.in_ok-push.ensures.items
    c.in_ok-push_capitals-2.ensures c.deref.ensures.value)
    c.spelled.ensures
