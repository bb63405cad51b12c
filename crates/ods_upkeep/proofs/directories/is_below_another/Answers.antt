use Rattle.std.proofs.lemmas.Result.{err_from_is_err_and}
use Rattle.ods_paths.specs.Patterns.{capitals}
use Rattle.ods_paths.specs.Views.{folder}
use Rattle.ods_upkeep.proofs.Meaning.{below_another}
use Rattle.ods_upkeep.proofs.Unmeaning.{means_none}
use Rattle.ods_upkeep.proofs.directories.is_below_another.Goals as goal

pub returns : goal.returns
returns c =
    below_another c.args.path.now c.as_bytes.result.now (folder c.in_ok-meant.meant.folder) (capitals c.in_ok-meant.meant.name.items) c.has_steps.result c.as_bytes.ensures.value c.in_ok-meant.ensures
    c.has_steps.ensures

pub returns-in_err-meant : goal.returns-in_err-meant
returns-in_err-meant c =
    let p = err_from_is_err_and c.from_residual.result c.from_residual.ensures.1 in
    rw (p.1, p.2) (means_none c.args.path.now c.as_bytes.result.now c.in_err-meant.field-0.0 c.as_bytes.ensures.value c.in_err-meant.ensures)
