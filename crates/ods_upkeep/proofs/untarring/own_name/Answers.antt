use Rattle.std.proofs.Common.{◌≡◌, ◌∙◌, ◌∷◌, ◌++◌, ap, subst}
use Rattle.std.specs.Prelude.{MatchResult}
use Rattle.ods_base.specs.Name.{Spells}
use Rattle.ods_base.specs.declared.name.Pick.TheVariants.{Highest}
use Rattle.ods_paths.specs.Patterns.{capitals}
use Rattle.ods_upkeep.specs.HostNames.{title_of, type_of}
use Rattle.ods_upkeep.specs.Target.{IsNoName}
use Rattle.ods_upkeep.proofs.untarring.own_name.Goals as goal

pub returns : goal.returns
returns c =
    let text = c.args.text.now in
    let title : c.parts.result.0.now ≡ title_of text = c.parts.ensures.0 ∙ ap title_of c.as_bytes.ensures.value in
    let kind : c.parts.result.1.now ≡ type_of text = c.parts.ensures.1 ∙ ap type_of c.as_bytes.ensures.value in
    subst (λ a. MatchResult c.name_of.result (λ n. Spells (capitals a ++ 46 ∷ capitals (type_of text)) n Highest) (IsNoName (capitals a) (capitals (type_of text)))) title
    (subst (λ b. MatchResult c.name_of.result (λ n. Spells (capitals c.parts.result.0.now ++ 46 ∷ capitals b) n Highest) (IsNoName (capitals c.parts.result.0.now) (capitals b))) kind c.name_of.ensures)
