use Rattle.std.proofs.Common.{◌≡◌, subst}
use Rattle.std.specs.Prelude.{OnErr, OnOk}
use Rattle.ods_filing.specs.Amended.{HasGotLabel}
use Rattle.ods_filing.specs.Filed.{Filed}
use Rattle.ods_filing.proofs.Done.{filed, has_got_label, stays_filed}
use Rattle.ods_filing.proofs.filing.Filing.set_label.Goals as goal

pub returns-clause-given : goal.returns-clause-given
returns-clause-given c =
    subst (λ (f : Filed). OnOk c.set_label.result (HasGotLabel f c.args.label.now (filed c.set_label.new.self c.self.inside.user))) c.self.view_is
    (has_got_label c.self.inside.sound c.set_label.new.self c.self.inside.user c.args.label.now c.set_label.result c.set_label.ensures.given)

pub returns-clause-unchanged : goal.returns-clause-unchanged
returns-clause-unchanged c =
    subst (λ f. OnErr c.set_label.result (filed c.set_label.new.self c.self.inside.user ≡ f)) c.self.view_is
    (stays_filed c.self.inside.sound c.set_label.new.self c.self.inside.user c.set_label.result c.set_label.ensures.unchanged)
