use Rattle.std.proofs.Common.{◌∙◌, ◌++◌, ap, ltb-true, sym}
use Rattle.std.specs.String.{string_bytes}
use Rattle.ods_shell.specs.Usage.{directory_use}
use Rattle.ods_shell.proofs.Places.{on_ok, place_is}
use Rattle.ods_shell.proofs.usage.push_directory_use.Goals as goal

pub returns-in-Some : goal.returns-in-Some
returns-in-Some c =
    let here = place_is c.args.directories.now c.args.place c.in-Some.directory.now (ltb-true _ _ (sym c.in-Some.ensures.lookup.0)) c.in-Some.ensures.lookup.1 in
    on_ok c.push_one_directory.result (λ is. is ∙ ap (λ d. string_bytes c.args.text.now ++ directory_use c.args.json c.args.image.now d c.args.blocks) (sym here)) c.push_one_directory.ensures
