use denote.Enum.Bare.{differs_false}
use Rattle.std.proofs.Common.{rules, sym}
use Rattle.ods_shell.specs.contracts.facts.Kind.{the_type}
use Rattle.ods_upkeep.proofs.Moves.{into_when}
use Rattle.ods_upkeep.proofs.moving.is_into_itself.Goals as goal

pub returns : goal.returns
returns c =
    into_when c.args.volume.now.image c.args.volume.now.layout c.args.target.now c.args.found.now.facts c.in-Some.facts c.leads_to.result (sym c.in-Some.ensures) (differs_false the_type (search rules) _ _ (sym c.if-ne.ensures)) c.leads_to.ensures
