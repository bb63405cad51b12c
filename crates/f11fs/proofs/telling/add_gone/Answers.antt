use Rattle.std.proofs.Common.{rules, ◌≡◌, ◌≤◌, ◌∙◌, ℕ, List, [], sym, refl, append-nil, length, string_bytes}
use Rattle.f11fs.specs.Plans.{IsToldOfOld}
use Rattle.f11fs.proofs.AllTold.{told_all, told_next}
use Rattle.f11fs.proofs.telling.add_gone.Goals as goal

pub loop-one-init : goal.loop-one-init
loop-one-init c = (refl, λ _. ([], refl, sym (append-nil (string_bytes c.args.plan.now.text))))

pub loop-one-preserved : goal.loop-one-preserved
loop-one-preserved c = (
  c.add_old.ensures.mode ∙ c.loop-one.invariant.0,
  λ sorted. told_next (λ json one told. IsToldOfOld json c.args.new.now one told) c.args.old.now c.loop-one.one-index c.one-item.result c.args.plan.now c.loop-one.plan c.add_old.new.plan
      c.loop-one-test.true c.one-item.is c.loop-one.invariant.0 (c.loop-one.invariant.1 sorted) (c.in_ok-add_old.ensures.told sorted),
)

pub returns-clause-told : goal.returns-clause-told
returns-clause-told c = λ sorted.
    let past : length c.args.old.now ≤ c.loop-one.one-index = search rules in
    told_all (IsToldOfOld c.args.plan.now.json c.args.new.now) c.args.old.now c.loop-one.one-index c.args.plan.now c.loop-one.plan past (c.loop-one.invariant.1 sorted)
