use denote.Enum.Bare.{same_true}
use Rattle.std.proofs.Common.{rules, sym}
use Rattle.ods_shell.specs.contracts.facts.Kind.{the_type}
use Rattle.ods_upkeep.proofs.Picking.{is_directory, no_file}
use Rattle.ods_upkeep.proofs.keeping.attributes_of.Goals as goal

pub returns-in_default-facts_by_id : goal.returns-in_default-facts_by_id
returns-in_default-facts_by_id c = no_file c.args.disk.now.image.now c.args.disk.now.layout.now c.args.picked.now c.in-Some.entry c.in-Some.is c.in_default-facts_by_id.ensures

pub returns-then-eq : goal.returns-then-eq
returns-then-eq c =
    is_directory c.args.disk.now.image.now c.args.disk.now.layout.now c.args.picked.now c.in-Some.entry c.in-Some-facts_by_id.facts c.in-Some.is c.in-Some-facts_by_id.ensures.0 (same_true the_type (search rules) _ _ (sym c.if-eq.ensures))
