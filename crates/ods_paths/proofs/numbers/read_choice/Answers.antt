use Rattle.ods_paths.proofs.Choices.{each_choice, octal_choice, no_choice}
use Rattle.ods_paths.proofs.numbers.read_choice.Goals as goal

pub returns-then-is_text : goal.returns-then-is_text
returns-then-is_text c = each_choice c.args.text.now c.is_text.result c.is_text.ensures c.if-is_text.true

pub returns-in-Some : goal.returns-in-Some
returns-in-Some c = octal_choice c.args.text.now c.is_text.result c.in-Some.value c.is_text.ensures c.if-is_text.false c.in-Some.ensures

pub returns-in-None : goal.returns-in-None
returns-in-None c = no_choice c.args.text.now c.is_text.result c.is_text.ensures c.if-is_text.false c.in-None.ensures
