use Rattle.std.proofs.Common.{◌∙◌, ◌++◌, ap, ltb-true, sym}
use Rattle.std.specs.String.{string_bytes}
use Rattle.ods_shell.specs.There.{path_in}
use Rattle.ods_shell.proofs.Places.{on_ok, place_is}
use Rattle.ods_shell.proofs.find.push_path_of.Goals as goal

pub returns-in-Some : goal.returns-in-Some
returns-in-Some c =
    let here = place_is c.args.directories.now c.args.line.now.directory c.in-Some.directory.now (ltb-true _ _ (sym c.in-Some.ensures.lookup.0)) c.in-Some.ensures.lookup.1 in
    on_ok c.push_path_in.result (λ is. is ∙ ap (λ d. string_bytes c.args.text.now ++ path_in d c.args.line.now.entry) (sym here)) c.push_path_in.ensures
