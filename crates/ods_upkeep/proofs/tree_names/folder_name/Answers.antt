use Rattle.std.proofs.Common.{◌≡◌, ◌≢◌, ◌∙◌, ◌∷◌, ◌++◌, false, true, ap, subst}
use Rattle.std.specs.Prelude.{MatchResult, codes}
use Rattle.ods_base.specs.Name.{Spells}
use Rattle.ods_base.specs.declared.name.Pick.TheVariants.{Highest}
use Rattle.ods_paths.specs.Patterns.{capitals}
use Rattle.ods_paths.specs.Steps.{step_of}
use Rattle.ods_upkeep.specs.Target.{IsNoName}
use Rattle.ods_upkeep.proofs.TreeNaming.{folder_named}
use Rattle.ods_upkeep.proofs.tree_names.folder_name.Goals as goal

pub returns : goal.returns
returns c =
    let text = c.in_ok-text.text.items in
    let other : text ≢ codes "000000" = λ is. (let clash : false ≡ true = c.if-is_text.ensures.1 (c.deref.ensures.value ∙ is) in absurd (cc)) in
    folder_named c.name_of.result (λ n. n) c.args.folder.now text _ (c.read_step.ensures ∙ ap step_of c.as_bytes.ensures.value) c.in_ok-text.ensures other
    (subst (λ t. MatchResult c.name_of.result (λ n. Spells (capitals t ++ 46 ∷ capitals (codes "DIR")) n Highest) (IsNoName (capitals t) (capitals (codes "DIR")))) c.deref-2.ensures.value c.name_of.ensures)
