use Rattle.std.proofs.Common.{◌≡◌, ℕ, List, Bool, sym, subst}
use Rattle.std.specs.Prelude.{OnOk}
use Rattle.std.proofs.lemmas.Result.{on_ok_weaker}
use Rattle.f11fs.specs.Plans.{IsToldWhere, Tells}
use Rattle.f11fs.proofs.telling.add_unnamed.Goals as goal

pub returns-clause-told : goal.returns-clause-told
returns-clause-told c =
    subst (λ (r : Bool). OnOk c.add_number.result ((told : List ℕ) × IsToldWhere c.args.plan.now.json r c.args.before.now c.args.after.now c.args.number told × Tells c.args.plan.now told c.add_number.new.plan)) (sym c.if-is_named.false)
    (on_ok_weaker c.add_number.result (λ all. (all.1.1.0, (all.0, all.1.0, all.1.1.1, all.1.1.2, all.1.1.3), all.1.1.4)) c.add_number.ensures.told)
