use Rattle.std.proofs.Common.{sym, ◌∙◌}
use Rattle.ods_script.proofs.Versions.{no_version, the_name}
use Rattle.ods_script.proofs.names.read_named.Goals as goal

pub returns-in_default : goal.returns-in_default
returns-in_default g c = λ y p. cc (c.in_default.ensures.only y.name p.0 p.1)

pub returns-in_default-from_pick : goal.returns-in_default-from_pick
returns-in_default-from_pick g c = no_version g.V.Version.of_pick c.args.text.now _ _ c.in-Ok.ensures.only (sym c.from_pick.ensures ∙ c.in_default-from_pick.is)

pub returns : goal.returns
returns g c = the_name g.V.Version.of_pick c.args.text.now _ _ c.in-Some.version c.in-Ok.ensures.ok c.in-Ok.ensures.only (sym c.from_pick.ensures ∙ c.in-Some.is)
