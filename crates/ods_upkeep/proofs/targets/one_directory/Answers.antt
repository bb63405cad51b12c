use denote.Enum.Bare.{differs_false}
use Rattle.std.proofs.Common.{rules, refl, sym}
use Rattle.ods_shell.specs.contracts.facts.Kind.{the_type}
use Rattle.ods_upkeep.proofs.Naming.{just_one}
use Rattle.ods_upkeep.proofs.targets.one_directory.Goals as goal

pub returns : goal.returns
returns c = record {
  found = c.one-item.result;
  one = just_one c.args.found.now c.args.found.now c.one-item.result refl c.in-len1.len_at_least c.in-len1.len_below c.one-item.is;
  facts = c.in-Some.facts;
  known = c.in-Some.is;
  is = differs_false the_type (search rules) _ _ (sym c.if-ne.ensures);
  same = refl;
}
