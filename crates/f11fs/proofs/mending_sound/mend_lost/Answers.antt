use Rattle.std.proofs.Common.{rules, ◌≡◌, true}
use Rattle.f11fs.proofs.Whole.{lost_left}
use Rattle.f11fs.proofs.mending_sound.mend_lost.Goals as goal

pub returns-clause-leaves : goal.returns-clause-leaves
returns-clause-leaves c =
    let lost = c.args.wishes.now.kinds.lost in
    let wanted : lost ≡ true = search rules in
    lost_left c.enter_or_keep.result lost c.args.wishes.now.stamp c.args.wishes.now.into c.args.filing.now c.enter_or_keep.new.filing wanted c.enter_or_keep.ensures.leaves
