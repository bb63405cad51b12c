use Rattle.std.proofs.Common.{inl, refl}
use Rattle.std.proofs.lemmas.Result.{err_from_is_err_and}
use Rattle.ods_upkeep.proofs.TreePutting.{folder_ends}
use Rattle.ods_upkeep.proofs.putting_tree.folder_at.Goals as goal

pub returns-in_err-names : goal.returns-in_err-names
returns-in_err-names c =
    let p = err_from_is_err_and c.from_residual.result c.from_residual.ensures.1 in
    rw (p.1, p.2) (inl (c.in_err-names.ensures.err, refl))

pub returns : goal.returns
returns c = folder_ends c.place_below.result c.args.stamp c.args.dir c.args.path.now c.in_ok-names.names.items c.deref.result.now c.args.filing.now c.place_below.new.filing c.in_ok-names.ensures.ok c.deref.ensures.value c.place_below.ensures.placed c.place_below.ensures.refused
