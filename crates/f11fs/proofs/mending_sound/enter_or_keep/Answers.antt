use Rattle.std.proofs.Common.{rules, ◌≡◌, inr, subst}
use Rattle.std.specs.Prelude.{MatchBool}
use Rattle.f11fs.specs.Mended.{EntersLost, EntersNone}
use Rattle.f11fs.proofs.Whole.{again}
use Rattle.f11fs.proofs.mending_sound.enter_or_keep.Goals as goal

pub returns-clause-leaves : goal.returns-clause-leaves
returns-clause-leaves c =
    let old = c.args.filing.now in
    let new = c.restore.new.filing in
    let stamp = c.args.wishes.now.stamp in
    let into = c.args.wishes.now.into in
    let image : c.in_ok-before.before.image ≡ old.image = search rules in
    let layout : c.in_ok-before.before.layout ≡ old.layout = search rules in
    let user : c.user-user.result ≡ old.user = search rules in
    let is : new ≡ record { image = c.in_ok-before.before.image; layout = c.in_ok-before.before.layout; user = c.user-user.result } = search rules in
    let none : EntersNone stamp into old = subst (λ b. MatchBool b (EntersLost stamp into old c.enter_all.new.filing) (EntersNone stamp into old)) c.if-is_entered.false c.in_ok-is_entered.ensures.leaves in
    inr (again old new c.in_ok-before.before.image c.in_ok-before.before.layout c.user-user.result is image layout user, none)
