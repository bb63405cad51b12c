use Rattle.std.proofs.Common.{not, rules}
use Rattle.std.proofs.lemmas.Fn.{filter_same}
use Rattle.ods_shell.specs.Passed.{is_passed_over}
use Rattle.ods_shell.specs.declared.found.Found.{Found}
use Rattle.ods_upkeep.proofs.copying_from.keep_copied.Goals as goal

pub returns : goal.returns
returns c = filter_same _ (λ (f : Found). not (is_passed_over f.facts)) _ (λ x b g called. search rules) _ _ c.retain.ensures.filtered
