use Rattle.std.proofs.Common.{◌≡◌, ◌∙◌, IfOk, inr, sym, subst, true, false}
use Rattle.std.specs.Prelude.{◌≢◌, MatchBool}
use Rattle.ods_mount.specs.declared.fault.MountFault.TheVariants.{NoMemory}
use Rattle.f11fs.specs.Mended.{IsMountedWhollyMended, Wholly}
use Rattle.f11fs.proofs.mending_sound.mend_mounted.Goals as goal

pub returns-in_ok-tell_refused-in-Err-clause-leaves : goal.returns-in_ok-tell_refused-in-Err-clause-leaves
returns-in_ok-tell_refused-in-Err-clause-leaves c =
    inr (
      c.in-Err.ensures.unchanged,
      (
        c.in-Err.fault,
        c.in-Err.ensures.fault (subst (λ b. MatchBool b (c.in-Err.fault ≡ NoMemory) (c.in-Err.fault ≢ NoMemory)) c.if-is_memory.false c.is_memory.ensures),
      ),
    )

pub returns-in_ok-tell_refused-in-Err-clause-whole : goal.returns-in_ok-tell_refused-in-Err-clause-whole
returns-in_ok-tell_refused-in-Err-clause-whole c = λ now. let clash : true ≡ false = sym c.tell_refused.ensures.left ∙ now in absurd (cc clash)

pub returns-in-Ok-clause-whole : goal.returns-in-Ok-clause-whole
returns-in-Ok-clause-whole c =
    subst (λ I. IfOk c.mend_volume.result (λ J. Wholly c.args.report.now.is_left c.mend_volume.new.report.is_left (IsMountedWhollyMended c.args.wishes.now.kinds c.args.wishes.now.stamp c.args.wishes.now.into I J)))
    c.in-Ok.ensures.mounted.0 c.mend_volume.ensures.whole
