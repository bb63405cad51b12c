use Rattle.std.proofs.Common.{refl}
use Rattle.std.proofs.lemmas.Result.{err_from_is_err_and}
use Rattle.ods_upkeep.specs.TreePut.{nameless, unplaced}
use Rattle.ods_upkeep.proofs.TreePutting.{leaf_ends}
use Rattle.ods_upkeep.proofs.putting_tree.put_leaf_at.Goals as goal

pub returns-in_err-name : goal.returns-in_err-name
returns-in_err-name c =
    let p = err_from_is_err_and c.from_residual.result c.from_residual.ensures.1 in
    rw (p.1, p.2) (nameless c.last_part.ensures.0 c.last_part.result.now c.last_part.ensures.1 c.in_err-name.ensures refl)

pub returns-in_err-place : goal.returns-in_err-place
returns-in_err-place c =
    let p = err_from_is_err_and c.from_residual-in_err-place.result c.from_residual-in_err-place.ensures.1 in
    rw (p.1, p.2) (unplaced c.in_err-place.ensures)

pub returns : goal.returns
returns c =
    leaf_ends c.put_one.result c.args.how.now c.args.dir c.args.file.now.name.now c.args.file.now.bytes.now c.args.filing.now c.folder_at.new.filing c.put_one.new.filing c.last_part.ensures.0 c.last_part.result.now c.in_ok-name.name
    c.in_ok-name.version c.in_ok-place.place c.putting_in-putting.result c.put_one.new.self c.putting_in-putting.ensures c.last_part.ensures.1 c.in_ok-name.ensures c.in_ok-place.ensures c.put_one.ensures.done c.put_one.ensures.refused
