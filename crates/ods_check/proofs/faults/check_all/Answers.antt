use Rattle.ods_mount.proofs.Checked.{sound_by}
use Rattle.ods_mount.proofs.Soundness.{IsSound-by}
use Rattle.std.proofs.Common.{ap, sym, subst}
use Rattle.ods_check.proofs.Telling.{none_to_tell}
use Rattle.ods_check.proofs.Others.{no_others}
use Rattle.ods_check.specs.Lists.{AreDistinct}
use Rattle.ods_check.proofs.Turning.{distinct_nil}
use Rattle.ods_check.proofs.faults.check_all.Goals as goal

pub returns-in-Ok-clause-sound : goal.returns-in-Ok-clause-sound
returns-in-Ok-clause-sound c _ = IsSound-by c.args.image.now c.in-Ok.layout (sound_by c.args.image.now c.in-Ok.layout c.in-Ok.ensures.ok)

pub returns-in-Ok-clause-layout : goal.returns-in-Ok-clause-layout
returns-in-Ok-clause-layout c = (
  c.in-Ok.ensures.ok.layout,
  none_to_tell c.args.image.now c.in-Ok.layout _ _ (sound_by c.args.image.now c.in-Ok.layout c.in-Ok.ensures.ok),
  no_others c.args.image.now c.in-Ok.layout _ _ (ap (λ l. l.0) c.new-in-Ok.ensures),
)

pub all_faults-requires : goal.all_faults-requires
all_faults-requires c = c.in-Err.ensures.err c.if-is_memory.ensures

pub returns-in-Ok-clause-answer : goal.returns-in-Ok-clause-answer
returns-in-Ok-clause-answer c = (tt, IsSound-by c.args.image.now c.in-Ok.layout (sound_by c.args.image.now c.in-Ok.layout c.in-Ok.ensures.ok))

pub returns-in-Ok-clause-once : goal.returns-in-Ok-clause-once
returns-in-Ok-clause-once c = subst AreDistinct (sym (ap (λ l. l.0) c.new.ensures)) distinct_nil
