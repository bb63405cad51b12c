use Rattle.std.proofs.Common.{◌≡◌, ℕ, List, sym, subst, Option, Some}
use Rattle.std.specs.Prelude.{OnOk}
use Rattle.ods_base.specs.declared.file_id.FileId.{FileId}
use Rattle.f11fs.specs.Plans.{DifferBy, IsToldOfNumber, Tells}
use Rattle.f11fs.proofs.telling.add_ids.Goals as goal

pub returns-in-Some-Some-clause-told : goal.returns-in-Some-Some-clause-told
returns-in-Some-Some-clause-told c =
    subst (λ (o : Option FileId). OnOk c.add_both.result ((told : List ℕ) × IsToldOfNumber c.args.plan.now.json (λ a b d. DifferBy c.args.before.now a c.args.after.now b d) o c.args.new told × Tells c.args.plan.now told c.add_both.new.plan)) (sym c.in-Some-Some.is-0)
    (subst (λ (o : Option FileId). OnOk c.add_both.result ((told : List ℕ) × IsToldOfNumber c.args.plan.now.json (λ a b d. DifferBy c.args.before.now a c.args.after.now b d) (Some c.in-Some-Some.old) o told × Tells c.args.plan.now told c.add_both.new.plan)) (sym c.in-Some-Some.is-1)
    c.add_both.ensures.told)
