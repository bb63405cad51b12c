use Rattle.std.proofs.Common.{inl, refl}
use Rattle.std.proofs.lemmas.Result.{err_from_is_err_and}
use Rattle.ods_upkeep.specs.Made.{IsNewPlace}
use Rattle.ods_upkeep.specs.Unmade.{IsNoNewPlace}
use Rattle.ods_upkeep.proofs.Made.{is_made}
use Rattle.ods_upkeep.proofs.Naming.{same_disk}
use Rattle.ods_upkeep.proofs.Unmaking.{not_created, not_entered}
use Rattle.ods_upkeep.proofs.Unmeaning.{match_last}
use Rattle.ods_upkeep.proofs.directories.make_directory.Goals as goal

pub returns : goal.returns
returns c =
    let dir = c.in_ok-dir.dir in
    let name = c.in_ok-dir.name in
    let place = same_disk (λ I L. IsNewPlace I L c.args.path.now dir name) c.mounted.ensures.0 c.mounted.ensures.1 c.in_ok-dir.ensures in
    match_last c.enter.result
    (is_made c.args.owner c.args.names c.args.stamp c.args.path.now c.args.filing.now c.set_user.new.self c.create-made.new.filing c.set_user-2.new.self c.enter.new.filing dir name c.in_ok-made.field-0
    c.owner_of.result c.user-user.result place c.owner_of.ensures c.user-user.ensures c.set_user.ensures c.in_ok-made.ensures c.set_user-2.ensures)
    (λ why same none.
    not_entered c.args.owner c.args.names c.args.stamp c.args.path.now c.args.filing.now c.set_user.new.self c.create-made.new.filing c.set_user-2.new.self c.enter.new.filing dir name c.in_ok-made.field-0
    c.owner_of.result c.user-user.result place c.owner_of.ensures c.user-user.ensures c.set_user.ensures c.in_ok-made.ensures c.set_user-2.ensures same why none)
    c.enter.ensures.done c.enter.ensures.unchanged c.enter.ensures.refused

pub returns-in_err-dir : goal.returns-in_err-dir
returns-in_err-dir c =
    let p = err_from_is_err_and c.from_residual.result c.from_residual.ensures.1 in
    rw (p.1, p.2) (inl (refl, same_disk (λ I L. IsNoNewPlace I L c.args.path.now c.in_err-dir.field-0.0) c.mounted.ensures.0 c.mounted.ensures.1 c.in_err-dir.ensures))

pub returns-in_err-made : goal.returns-in_err-made
returns-in_err-made c =
    let dir = c.in_ok-dir.dir in
    let name = c.in_ok-dir.name in
    let p = err_from_is_err_and c.from_residual-in_err-made.result c.from_residual-in_err-made.ensures.1 in
    rw (p.1, p.2)
    (not_created c.args.owner c.args.names c.args.stamp c.args.path.now c.args.filing.now c.set_user.new.self c.create-made.new.filing c.set_user-2.new.self dir name c.owner_of.result c.user-user.result c.in_err-made.field-0.0
    (same_disk (λ I L. IsNewPlace I L c.args.path.now dir name) c.mounted.ensures.0 c.mounted.ensures.1 c.in_ok-dir.ensures) c.owner_of.ensures c.user-user.ensures c.set_user.ensures c.in_err-made.ensures.1 c.in_err-made.ensures.0
    c.set_user-2.ensures)
