use Rattle.std.proofs.Common.{IfOk, subst}
use Rattle.f11fs.specs.Mended.{IsMountedWhollyMended, LeavesMounted, Wholly}
use Rattle.f11fs.proofs.mending_sound.mend_volume.Goals as goal

pub returns-in-Ok-clause-leaves : goal.returns-in-Ok-clause-leaves
returns-in-Ok-clause-leaves c =
    subst (λ I. IfOk c.mend_shared.result (LeavesMounted c.args.wishes.now.kinds c.args.wishes.now.stamp c.args.wishes.now.into I)) c.in-Ok.ensures.ok.0 c.mend_shared.ensures.leaves

pub returns-in-Ok-clause-whole : goal.returns-in-Ok-clause-whole
returns-in-Ok-clause-whole c =
    subst (λ I. IfOk c.mend_shared.result (λ J. Wholly c.args.report.now.is_left c.mend_shared.new.report.is_left (IsMountedWhollyMended c.args.wishes.now.kinds c.args.wishes.now.stamp c.args.wishes.now.into I J)))
    c.in-Ok.ensures.ok.0 c.mend_shared.ensures.whole
