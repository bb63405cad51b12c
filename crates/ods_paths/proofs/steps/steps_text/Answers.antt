use Rattle.ods_paths.proofs.Choices.{no_step, master_alone, other_steps}
use Rattle.ods_paths.proofs.steps.steps_text.Goals as goal

pub returns-then-is_empty : goal.returns-then-is_empty
returns-then-is_empty c = no_step c.is_empty.result c.args.text.now c.is_empty.ensures c.if-is_empty.true

pub returns-then-names_master : goal.returns-then-names_master
returns-then-names_master c = master_alone c.is_empty.result c.names_master.result c.args.text.now c.is_empty.ensures c.if-is_empty.false c.names_master.ensures c.if-names_master.true

pub returns : goal.returns
returns c = other_steps c.is_empty.result c.names_master.result c.args.text.now c.is_empty.ensures c.if-is_empty.false c.names_master.ensures c.if-names_master.false
