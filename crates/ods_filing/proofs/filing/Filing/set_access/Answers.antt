use Rattle.std.proofs.Common.{◌≡◌, subst}
use Rattle.std.specs.Prelude.{IfErr, OnErr, OnOk}
use Rattle.ods_filing.specs.Amended.{HasGiven, IsWhyNotGiven}
use Rattle.ods_filing.specs.Filed.{Filed}
use Rattle.ods_filing.proofs.Done.{filed, has_given, stays_filed}
use Rattle.ods_filing.proofs.filing.Filing.set_access.Goals as goal

pub returns-clause-given : goal.returns-clause-given
returns-clause-given c =
    subst (λ (f : Filed). OnOk c.set_access.result (HasGiven f c.args.file c.args.owner c.args.protection (filed c.set_access.new.self c.self.inside.user))) c.self.view_is
    (has_given c.self.inside.sound c.set_access.new.self c.self.inside.user c.args.file c.args.owner c.args.protection c.set_access.result c.set_access.ensures.given)

pub returns-clause-refused : goal.returns-clause-refused
returns-clause-refused c = subst (λ (f : Filed). IfErr c.set_access.result (IsWhyNotGiven f c.args.file)) c.self.view_is c.set_access.ensures.refused

pub returns-clause-unchanged : goal.returns-clause-unchanged
returns-clause-unchanged c =
    subst (λ f. OnErr c.set_access.result (filed c.set_access.new.self c.self.inside.user ≡ f)) c.self.view_is
    (stays_filed c.self.inside.sound c.set_access.new.self c.self.inside.user c.set_access.result c.set_access.ensures.unchanged)
