use Rattle.std.proofs.Common.{◌∙◌, sym}
use Rattle.std.specs.String.{string_bytes}
use Rattle.ods_upkeep.proofs.WaysMade.{step_made, step_refused}
use Rattle.ods_upkeep.proofs.on_the_way.make_step.Goals as goal

pub returns-clause-made : goal.returns-clause-made
returns-clause-made c =
    step_made c.make_there.result c.args.stamp (string_bytes c.args.way.now) c.args.part.now c.as_str.result.now c.args.filing.now c.make_there.new.filing (sym c.if-names_nothing.ensures)
    (c.as_str.ensures.value ∙ c.in_ok-push_part.ensures) c.make_there.ensures

pub returns-clause-refused : goal.returns-clause-refused
returns-clause-refused c =
    step_refused c.make_there.result c.args.stamp (string_bytes c.args.way.now) c.args.part.now c.as_str.result.now c.args.filing.now c.make_there.new.filing (sym c.if-names_nothing.ensures)
    (c.as_str.ensures.value ∙ c.in_ok-push_part.ensures) c.make_there.ensures
