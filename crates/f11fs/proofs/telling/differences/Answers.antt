use Rattle.std.proofs.Common.{◌∙◌}
use Rattle.std.specs.Option.{option_copied}
use Rattle.f11fs.proofs.Other.{copied_some, other_owner, other_protection}
use Rattle.f11fs.proofs.telling.differences.Goals as goal

pub returns : goal.returns
returns c = record {
  word = option_copied c.in_ok-difference.difference;
  compared = c.in_ok-difference.ensures;
  contents = c.is_some.ensures ∙ copied_some c.in_ok-difference.difference;
  protection = other_protection c.args.before.now c.args.old c.args.after.now c.args.new c.facts_by_id-was.result c.facts_by_id-is.result c.has_other_protection.result c.facts_by_id-was.ensures c.facts_by_id-is.ensures c.has_other_protection.ensures;
  owner = other_owner c.args.before.now c.args.old c.args.after.now c.args.new c.facts_by_id-was.result c.facts_by_id-is.result c.has_other_owner.result c.facts_by_id-was.ensures c.facts_by_id-is.ensures c.has_other_owner.ensures;
}
