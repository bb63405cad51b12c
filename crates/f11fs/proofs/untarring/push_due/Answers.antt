use Rattle.std.proofs.Common.{refl, subst, sym}
use Rattle.f11fs.specs.Unpacked.{IsDue}
use Rattle.f11fs.proofs.Unpacking.{Adds, due_one}
use Rattle.f11fs.proofs.untarring.push_due.Goals as goal

pub returns : goal.returns
returns c =
    subst (λ o. Adds c.args.due.now.items c.push.new.self.items (IsDue c.args.told.now o)) (sym c.in-Some.is)
    (due_one c.args.told.now c.in-Some.file _ c.args.due.now.items c.push.new.self.items (sym c.if-not-has_access.ensures) (refl, refl, refl) c.in_ok-push.ensures.items)
