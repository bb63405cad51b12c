use Rattle.std.proofs.Common.{rules, ◌≡◌, ◌≤◌, ◌∙◌, ℕ, List, [], sym, refl, append-nil, length, string_bytes}
use Rattle.f11fs.specs.Plans.{DifferBy, IsToldOfNew}
use Rattle.f11fs.proofs.AllTold.{told_all, told_next}
use Rattle.f11fs.proofs.telling.add_come.Goals as goal

pub loop-one-init : goal.loop-one-init
loop-one-init c = (refl, λ _. ([], refl, sym (append-nil (string_bytes c.args.plan.now.text))))

pub loop-one-preserved : goal.loop-one-preserved
loop-one-preserved c = (
  c.add_new.ensures.mode ∙ c.loop-one.invariant.0,
  λ sorted. told_next (λ json one told. IsToldOfNew json (λ a b d. DifferBy c.args.before.now a c.args.after.now b d) c.args.old.now one told) c.args.new.now c.loop-one.one-index c.one-item.result c.args.plan.now c.loop-one.plan c.add_new.new.plan
      c.loop-one-test.true c.one-item.is c.loop-one.invariant.0 (c.loop-one.invariant.1 sorted) (c.in_ok-add_new.ensures.told sorted),
)

pub returns-clause-told : goal.returns-clause-told
returns-clause-told c = λ sorted.
    let past : length c.args.new.now ≤ c.loop-one.one-index = search rules in
    told_all (IsToldOfNew c.args.plan.now.json (λ a b d. DifferBy c.args.before.now a c.args.after.now b d) c.args.old.now) c.args.new.now c.loop-one.one-index c.args.plan.now c.loop-one.plan past (c.loop-one.invariant.1 sorted)
