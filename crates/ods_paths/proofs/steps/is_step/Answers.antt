use Rattle.std.proofs.Common.{refl}
use Rattle.ods_paths.proofs.Choices.{numbers_are, pattern_is}
use Rattle.ods_paths.proofs.steps.is_step.Goals as goal

pub returns-in-Numbers : goal.returns-in-Numbers
returns-in-Numbers c = (λ t. numbers_are c.args.text.now _ _ c.in-Numbers.ensures, λ s. refl)

pub returns-in-Pattern : goal.returns-in-Pattern
returns-in-Pattern c = pattern_is c.args.text.now _ c.is_name.result c.in-Pattern.ensures c.is_name.ensures
