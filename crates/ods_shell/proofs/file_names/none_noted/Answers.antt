use Rattle.std.proofs.Common.{rules, ◌≡◌, ◌∙◌, ◌++◌, ◌∷◌, [], ap, None}
use Rattle.std.proofs.lemmas.List.{length-replicate, replicate_more}
use Rattle.std.specs.Prelude.{length}
use Rattle.ods_shell.proofs.Noted.{all_none}
use Rattle.ods_shell.proofs.file_names.none_noted.Goals as goal

pub loop-at-init : goal.loop-at-init
loop-at-init c = c.in_ok-first.ensures.items

pub loop-at-preserved : goal.loop-at-preserved
loop-at-preserved c = c.in_ok-push.ensures.items ∙ ap (λ l. l ++ None ∷ []) c.loop-at.invariant ∙ replicate_more c.loop-at._at None

pub returns-clause-size : goal.returns-clause-size
returns-clause-size c =
    let done : c.loop-at._at ≡ 65536 = search rules in
    ap length c.loop-at.invariant ∙ length-replicate c.loop-at._at None ∙ done

pub returns-clause-none : goal.returns-clause-none
returns-clause-none c = all_none c.loop-at.first.items _ c.loop-at.invariant
