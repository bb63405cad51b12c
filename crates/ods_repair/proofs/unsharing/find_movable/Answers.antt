use Rattle.std.proofs.Common.{sym, subst}
use Rattle.std.proofs.lemmas.Result.{err_from_is_err_and}
use Rattle.ods_space.specs.Disks.{on}
use Rattle.ods_repair.specs.Unshared.{IsNotUnshared}
use Rattle.ods_repair.proofs.Ready.{can_move}
use Rattle.ods_repair.proofs.unsharing.find_movable.Goals as goal

pub returns-in_err-check_layout-clause-refused : goal.returns-in_err-check_layout-clause-refused
returns-in_err-check_layout-clause-refused c =
    let p = err_from_is_err_and c.from_residual-in_err-check_layout.result c.from_residual-in_err-check_layout.ensures.1 in
    rw p.1 (subst (on IsNotUnshared c.args.disk.now c.args.file) (sym p.2) (c.in_err-check_layout.ensures.refused c.args.file))

pub returns-in_err-check_used-clause-refused : goal.returns-in_err-check_used-clause-refused
returns-in_err-check_used-clause-refused c =
    let p = err_from_is_err_and c.from_residual-in_err-check_used.result c.from_residual-in_err-check_used.ensures.1 in
    rw p.1 (subst (on IsNotUnshared c.args.disk.now c.args.file) (sym p.2) (c.in_err-check_used.ensures.refused c.args.file))

pub returns-clause-can : goal.returns-clause-can
returns-clause-can c =
    can_move c.args.disk.now.image.now c.args.disk.now.layout.now c.args.file c.in_ok-blocks.blocks.items c.requires.layout c.in_ok-blocks.ensures.other c.in_ok-blocks.ensures.blocks c.requires.index
    c.in_ok-check_layout.ensures.once c.in_ok-check_layout.ensures.bitmap c.in_ok-check_header.ensures.alone c.in_ok-check_used.ensures.used
