use Rattle.std.proofs.Common.{inl, inr, refl, rules}
use Rattle.ods_upkeep.specs.Wayside.{IsFreeAt, IsNoFolder}
use Rattle.ods_upkeep.proofs.Naming.{same_disk}
use Rattle.ods_upkeep.proofs.WaysMade.{one_made, one_not_made}
use Rattle.ods_upkeep.proofs.on_the_way.make_there.Goals as goal

pub returns-in-Ok : goal.returns-in-Ok
returns-in-Ok c =
    let free : IsFreeAt c.mounted.result.now.image c.mounted.result.now.layout c.args.path.now = search rules in
    inr (
      same_disk (λ I L. IsFreeAt I L c.args.path.now) c.mounted.ensures.0 c.mounted.ensures.1 free,
      one_made c.args.stamp c.args.path c.args.filing.now c.make_directories.new.filing c.in-Ok.ensures.made,
    )

pub returns-in-Err-make_directories : goal.returns-in-Err-make_directories
returns-in-Err-make_directories c =
    let free : IsFreeAt c.mounted.result.now.image c.mounted.result.now.layout c.args.path.now = search rules in
    inr (
      same_disk (λ I L. IsFreeAt I L c.args.path.now) c.mounted.ensures.0 c.mounted.ensures.1 free,
      one_not_made c.args.stamp c.args.path c.args.filing.now c.make_directories.new.filing c.in-Err-make_directories.failure c.in-Err-make_directories.ensures.refused,
    )

pub returns-in-Err : goal.returns-in-Err
returns-in-Err c = inl (refl, same_disk (λ I L. IsNoFolder I L c.args.path.now c.in-Err.why) c.mounted.ensures.0 c.mounted.ensures.1 c.in-Err.ensures)
