use Rattle.std.proofs.lemmas.Result.{err_from_is_err_and}
use Rattle.ods_upkeep.proofs.CopiedTrees.{made_in, uncreated_in, unentered_in}
use Rattle.ods_upkeep.proofs.copying_tree.make_below.Goals as goal

pub returns : goal.returns
returns c =
    made_in c.args.stamp c.args.filing.now c.set_user.new.self c.create-made.new.filing c.set_user-2.new.self c.enter.new.filing c.args.dir c.args.name c.in_ok-file.file
    c.owner_of.result c.user-user.result c.owner_of.ensures c.user-user.ensures c.set_user.ensures c.in_ok-file.ensures c.set_user-2.ensures c.in_ok-enter.ensures.done

pub returns-in_err-file : goal.returns-in_err-file
returns-in_err-file c =
    let p = err_from_is_err_and c.from_residual.result c.from_residual.ensures.1 in
    rw (p.1, p.2)
    (uncreated_in _ c.args.stamp c.args.filing.now c.set_user.new.self c.create-made.new.filing c.set_user-2.new.self c.args.dir c.args.name c.owner_of.result c.user-user.result
    c.owner_of.ensures c.user-user.ensures c.set_user.ensures c.in_err-file.ensures.1 c.in_err-file.ensures.0 c.set_user-2.ensures)

pub returns-in_err-enter : goal.returns-in_err-enter
returns-in_err-enter c =
    let p = err_from_is_err_and c.from_residual-in_err-enter.result c.from_residual-in_err-enter.ensures.1 in
    rw (p.1, p.2)
    (unentered_in _ c.args.stamp c.args.filing.now c.set_user.new.self c.create-made.new.filing c.set_user-2.new.self c.enter.new.filing c.args.dir c.args.name c.in_ok-file.file c.owner_of.result c.user-user.result
    c.owner_of.ensures c.user-user.ensures c.set_user.ensures c.in_ok-file.ensures c.set_user-2.ensures c.in_err-enter.ensures.unchanged c.in_err-enter.ensures.refused)
