use Rattle.std.proofs.Common.{◌∙◌, ◌++◌, ap, ltb-true, sym}
use Rattle.std.specs.Prelude.{◌==◌}
use Rattle.std.specs.String.{string_bytes, string_len}
use Rattle.ods_shell.specs.Lines.{heading}
use Rattle.ods_shell.proofs.Places.{on_ok, place_is}
use Rattle.ods_shell.proofs.ls.push_heading.Goals as goal

pub returns-in-Some : goal.returns-in-Some
returns-in-Some c =
    let here = place_is c.args.directories.now c.args.place c.in-Some.directory.now (ltb-true _ _ (sym c.in-Some.ensures.lookup.0)) c.in-Some.ensures.lookup.1 in
    on_ok c.push_named.result (λ is. is ∙ ap (λ d. string_bytes c.args.text.now ++ heading (string_len c.args.text.now == 0) d) (sym here)) c.push_named.ensures
