use Rattle.std.proofs.Common.{refl}
use Rattle.ods_paths.proofs.Choices.{zeros_master, step_master}
use Rattle.ods_paths.proofs.steps.names_master.Goals as goal

pub returns-then-is_text : goal.returns-then-is_text
returns-then-is_text c = zeros_master c.args.text.now c.is_text.result c.is_text.ensures c.if-is_text.true

pub returns-in-Numbers : goal.returns-in-Numbers
returns-in-Numbers c = step_master c.args.text.now c.is_text.result c.are_zeros.result _ c.is_text.ensures c.if-is_text.false c.in-Numbers.ensures c.are_zeros.ensures

pub returns-in-Pattern : goal.returns-in-Pattern
returns-in-Pattern c = step_master c.args.text.now c.is_text.result _ _ c.is_text.ensures c.if-is_text.false c.in-Pattern.ensures refl
