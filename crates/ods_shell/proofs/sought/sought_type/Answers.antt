use Rattle.std.proofs.Common.{◌++◌, ◌∷◌, [], ◌∙◌, ap}
use Rattle.ods_paths.specs.Patterns.{capitals}
use Rattle.ods_shell.proofs.PlainNames.{type_is}
use Rattle.ods_shell.proofs.sought.sought_type.Goals as goal

pub returns : goal.returns
returns c =
    let pattern = capitals c.args.pattern.now in
    type_is pattern c.deref.result.now c.spelled.result
    (c.deref.ensures.value ∙ c.in_ok-push_capitals.ensures ∙ ap (λ t. t ++ pattern) (c.in_ok-push.ensures.items ∙ ap (λ t. t ++ 46 ∷ []) c.new-text.ensures.items)) c.spelled.ensures
