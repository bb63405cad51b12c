use Rattle.std.proofs.Common.{◌∙◌, sym}
use Rattle.ods_base.specs.declared.name.Pick.TheVariants.{Highest}
use Rattle.ods_shell.proofs.PlainNames.{name_is}
use Rattle.ods_shell.proofs.sought.spelled.Goals as goal

pub returns-in-Ok : goal.returns-in-Ok
returns-in-Ok c = (
  sym c.has_wildcard.ensures ∙ c.if-has_wildcard.false,
  λ n spells. name_is c.parse_name.result c.in-Ok.found.0 n c.in-Ok.found.1 Highest c.in-Ok.is (c.parse_name.ensures.only n Highest spells),
)
