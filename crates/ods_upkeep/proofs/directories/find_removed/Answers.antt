use Rattle.std.proofs.Common.{inl, inr}
use Rattle.std.proofs.lemmas.Result.{err_from_is_err_and}
use Rattle.ods_paths.specs.Patterns.{capitals}
use Rattle.ods_paths.specs.Views.{folder}
use Rattle.ods_upkeep.proofs.Meaning.{means_by}
use Rattle.ods_upkeep.proofs.Unemptying.{no_find}
use Rattle.ods_upkeep.proofs.Unmeaning.{means_none}
use Rattle.ods_upkeep.proofs.directories.find_removed.Goals as goal

pub returns : goal.returns
returns c =
    let up = folder c.in_ok-meant.meant.folder in
    let name = capitals c.in_ok-meant.meant.name.items in
    record { up = up; name = name; means = means_by c.args.path.now c.as_bytes.result.now up name c.as_bytes.ensures.value c.in_ok-meant.ensures; are = c.in_ok-found.ensures.named }

pub returns-in_err-meant : goal.returns-in_err-meant
returns-in_err-meant c =
    let p = err_from_is_err_and c.from_residual.result c.from_residual.ensures.1 in
    rw (p.1, p.2) (inl (means_none c.args.path.now c.as_bytes.result.now c.in_err-meant.field-0.0 c.as_bytes.ensures.value c.in_err-meant.ensures))

pub returns-in_err-found : goal.returns-in_err-found
returns-in_err-found c =
    let up = folder c.in_ok-meant.meant.folder in
    let name = capitals c.in_ok-meant.meant.name.items in
    let p = err_from_is_err_and c.from_residual-in_err-found.result c.from_residual-in_err-found.ensures.1 in
    rw (p.1, p.2)
    (inr (
      up,
      (
        name,
        means_by c.args.path.now c.as_bytes.result.now up name c.as_bytes.ensures.value c.in_ok-meant.ensures,
        no_find c.args.volume.now.image c.args.volume.now.layout up name c.in_err-found.field-0.0 c.in_err-found.ensures.err,
      ),
    ))
