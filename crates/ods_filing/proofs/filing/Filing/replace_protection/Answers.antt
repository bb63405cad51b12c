use Rattle.std.proofs.Common.{◌≡◌, subst}
use Rattle.std.specs.Prelude.{IfErr, IfOk, OnErr, OnOk}
use Rattle.ods_amend.specs.Access.{protection_at}
use Rattle.ods_filing.specs.Amended.{HasProtection, IsWhyNotProtected}
use Rattle.ods_filing.specs.Filed.{Filed, disk_at}
use Rattle.ods_filing.proofs.Done.{filed, has_protection, stays_filed}
use Rattle.ods_filing.proofs.filing.Filing.replace_protection.Goals as goal

pub returns-clause-set : goal.returns-clause-set
returns-clause-set c =
    subst (λ (f : Filed). OnOk c.replace_protection.result (HasProtection f c.args.file c.args.protection (filed c.replace_protection.new.self c.self.inside.user))) c.self.view_is
    (has_protection c.self.inside.sound c.replace_protection.new.self c.self.inside.user c.args.file c.args.protection c.replace_protection.result c.replace_protection.ensures.set)

pub returns-clause-before : goal.returns-clause-before
returns-clause-before c = subst (λ (f : Filed). IfOk c.replace_protection.result (λ word. word ≡ protection_at (disk_at f) c.args.file)) c.self.view_is c.replace_protection.ensures.before

pub returns-clause-refused : goal.returns-clause-refused
returns-clause-refused c = subst (λ (f : Filed). IfErr c.replace_protection.result (IsWhyNotProtected f c.args.file)) c.self.view_is c.replace_protection.ensures.refused

pub returns-clause-unchanged : goal.returns-clause-unchanged
returns-clause-unchanged c =
    subst (λ f. OnErr c.replace_protection.result (filed c.replace_protection.new.self c.self.inside.user ≡ f)) c.self.view_is
    (stays_filed c.self.inside.sound c.replace_protection.new.self c.self.inside.user c.replace_protection.result c.replace_protection.ensures.unchanged)
