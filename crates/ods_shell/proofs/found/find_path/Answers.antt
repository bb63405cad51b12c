use Rattle.std.proofs.Common.{◌∙◌, ap, subst, List, ℕ, Some}
use Rattle.std.proofs.lemmas.Result.{IfOk-weaker}
use Rattle.ods_paths.specs.Bad.{IsBad}
use Rattle.ods_paths.specs.Paths.{Said, Says, Within}
use Rattle.ods_paths.specs.Views.{said, files as said_files, folder as said_folder}
use Rattle.ods_paths.specs.declared.paths.Path.TheVariants as the_path
use Rattle.ods_shell.proofs.found.find_path.Goals as goal

pub returns-in-Err-clause-err : goal.returns-in-Err-clause-err
returns-in-Err-clause-err c = subst (λ (text : List ℕ). IsBad text c.in-Err.bad) c.as_bytes.ensures.value c.in-Err.ensures

pub returns-in-Ok-Within-default-Some-clause-named : goal.returns-in-Ok-Within-default-Some-clause-named
returns-in-Ok-Within-default-Some-clause-named c =
    let arm = c.in-Ok-Within-default-Some in
    let says : Said = Within (said_folder arm.folder) (Some (said_files arm.files)) in
    let said_so : Says c.args.path.now says =
    subst (λ (text : List ℕ). Says text says) c.as_bytes.ensures.value
    (subst (λ p. Says c.as_bytes.result.now (said p)) (arm.field-0-is ∙ ap (λ o. the_path.Within arm.folder o) arm.field-0-1-is) arm.ensures) in
    IfOk-weaker c.find_names.result _ _ (λ r named. (says, said_so, named)) c.find_names.ensures.named
