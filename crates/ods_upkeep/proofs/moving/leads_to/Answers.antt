use Rattle.std.proofs.Common.{◌<◌, subst, [], ◌∷◌, arith, rules}
use Rattle.ods_base.specs.Image.{IsImage}
use Rattle.ods_walk.specs.Complete.{AreReached}
use Rattle.ods_upkeep.proofs.Below.{below_by, few_entered}
use Rattle.ods_upkeep.proofs.Naming.{same_disk}
use Rattle.ods_upkeep.proofs.moving.leads_to.Goals as goal
use Rattle.ods_upkeep.proofs.moving.leads_to.Goals.{In_ok-walk}

-- what the walk has entered, of the volume
reached : (c : In_ok-walk) → AreReached c.args.volume.now.image c.args.volume.now.layout c.args.from (4 ∷ []) c.in_ok-walk.walk.directories
reached c = same_disk (λ I L. AreReached I L c.args.from (4 ∷ []) c.in_ok-walk.walk.directories) c.disk-disk.ensures.image c.disk-disk.ensures.layout c.in_ok-walk.ensures.reached

pub has_entered-requires : goal.has_entered-requires
has_entered-requires c =
    let low : c.args.from < 65536 = omega (arith, c.ranges.from.fits) in
    few_entered c.args.volume.now.image c.args.volume.now.layout (subst IsImage c.image.ensures.value c.len.ensures.image) c.args.from c.in_ok-walk.walk.directories low (reached (goal.at.has_entered-requires c).In_ok-walk)

pub returns : goal.returns
returns c =
    below_by c.args.volume.now.image c.args.volume.now.layout c.args.from c.args.to c.in_ok-walk.walk.directories c.has_entered.result c.if-from-to.false (search rules) (reached (goal.at.returns c).In_ok-walk) c.has_entered.ensures
