use Rattle.std.proofs.Common.{◌≡◌, ◌∙◌, sym, subst, ap, refl}
use Rattle.std.specs.Prelude.{Ok}
use Rattle.ods_base.specs.Name.{Spells}
use Rattle.ods_base.specs.declared.name.Pick.TheVariants.{Highest}
use Rattle.ods_header.specs.Text.{ident_text}
use Rattle.ods_shell.specs.HostNames.{before_version}
use Rattle.ods_upkeep.proofs.Idents.{no_pick}
use Rattle.ods_upkeep.proofs.copying.name_in.Goals as goal

pub returns-in-Ok-clause-ok : goal.returns-in-Ok-clause-ok
returns-in-Ok-clause-ok c =
    let text : c.as_bytes.result.now ≡ before_version (ident_text c.args.ident.now) = c.as_bytes.ensures.value ∙ c.without_version.ensures ∙ ap before_version (c.as_str.ensures.value ∙ c.print_ident-text.ensures) in
    no_pick (ident_text c.args.ident.now) c.as_bytes.result.now _ _ text c.in-Ok.ensures.ok

pub returns-in-Err-clause-err : goal.returns-in-Err-clause-err
returns-in-Err-clause-err c =
    let text : c.as_bytes.result.now ≡ before_version (ident_text c.args.ident.now) = c.as_bytes.ensures.value ∙ c.without_version.ensures ∙ ap before_version (c.as_str.ensures.value ∙ c.print_ident-text.ensures) in (
      refl,
      λ name spells.
          let is : c.parse_name.result ≡ Ok (name, Highest) = c.parse_name.ensures.only name Highest (subst (λ t. Spells t name Highest) (sym text) spells) in
          absurd (cc (is, c.in-Err.is)),
    )
