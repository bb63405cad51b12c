use Rattle.std.proofs.Common.{rules, ◌≡◌, subst, None}
use Rattle.ods_base.specs.Name.{directory_type}
use Rattle.ods_upkeep.specs.Made.{IsOwner}
use Rattle.ods_upkeep.proofs.copying_tree.make_named.Goals as goal

pub returns-in-Ok : goal.returns-in-Ok
returns-in-Ok c =
    let is : c.args.name.ext ≡ directory_type = search rules in
    (is, subst (λ u. IsOwner None u c.args.dir c.args.name c.owner_of-owner.result) c.user.ensures c.owner_of-owner.ensures, c.in-Ok.ensures)
