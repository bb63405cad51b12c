use Rattle.std.proofs.Common.{◌≡◌, ◌∙◌, refl, sym, Ok, Err}
use Rattle.ods_base.specs.declared.name.Pick.TheVariants.{Exact, Highest, Lowest}
use Rattle.ods_upkeep.proofs.NameTexts.{pick_is}
use Rattle.ods_upkeep.proofs.targets.spelled.Goals as goal

pub returns-in-Ok-default-Lowest : goal.returns-in-Ok-default-Lowest
returns-in-Ok-default-Lowest c = (
  refl,
  λ n spells.
      let high : c.in-Ok-default-Lowest.field-0-1 ≡ Highest = pick_is c.parse_name.result c.in-Ok-default-Lowest.field-0-0 n c.in-Ok-default-Lowest.field-0-1 c.in-Ok-default-Lowest.is (c.parse_name.ensures.only n Highest spells) in
      let clash : Lowest ≡ Highest = sym c.in-Ok-default-Lowest.field-0-1-is ∙ high in
      absurd (cc),
)

pub returns-in-Ok-default-Exact : goal.returns-in-Ok-default-Exact
returns-in-Ok-default-Exact c = (
  refl,
  λ n spells.
      let high : c.in-Ok-default-Exact.field-0-1 ≡ Highest = pick_is c.parse_name.result c.in-Ok-default-Exact.field-0-0 n c.in-Ok-default-Exact.field-0-1 c.in-Ok-default-Exact.is (c.parse_name.ensures.only n Highest spells) in
      let clash : Exact c.in-Ok-default-Exact.field-0-1-0 ≡ Highest = sym c.in-Ok-default-Exact.field-0-1-is ∙ high in
      absurd (cc),
)

pub returns-in-Err : goal.returns-in-Err
returns-in-Err c = (refl, λ n spells. (let clash : Err c.in-Err.field-0 ≡ Ok (n, Highest) = sym c.in-Err.is ∙ c.parse_name.ensures.only n Highest spells in absurd (cc)))
