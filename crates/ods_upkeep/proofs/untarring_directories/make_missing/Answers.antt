use Rattle.std.proofs.Common.{inl, inr, refl, rules}
use Rattle.ods_upkeep.specs.Wayside.{IsFreeAt, IsNoFolder}
use Rattle.ods_upkeep.proofs.Naming.{same_disk}
use Rattle.ods_upkeep.proofs.untarring_directories.make_missing.Goals as goal

pub returns-in-Ok : goal.returns-in-Ok
returns-in-Ok c =
    let free : IsFreeAt c.mounted.result.now.image c.mounted.result.now.layout c.args.path.now = search rules in
    (same_disk (λ I L. IsFreeAt I L c.args.path.now) c.mounted.ensures.0 c.mounted.ensures.1 free, c.in-Ok.ensures)

pub returns-in-Err-make_one : goal.returns-in-Err-make_one
returns-in-Err-make_one c =
    let free : IsFreeAt c.mounted.result.now.image c.mounted.result.now.layout c.args.path.now = search rules in
    inr (same_disk (λ I L. IsFreeAt I L c.args.path.now) c.mounted.ensures.0 c.mounted.ensures.1 free, c.in-Err-make_one.ensures)

pub returns-in-Err : goal.returns-in-Err
returns-in-Err c = inl (refl, same_disk (λ I L. IsNoFolder I L c.args.path.now c.in-Err.why) c.mounted.ensures.0 c.mounted.ensures.1 c.in-Err.ensures)
