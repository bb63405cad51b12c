use Rattle.std.proofs.Common.{rules, ◌≡◌, ◌+◌, ◌<◌, ◌≤◌, ◌↔◌, ◌∙◌, ℕ, List, Bool, true, Some, sym, refl, subst, arith, slice_get}
use Rattle.f11fs.specs.Plans.{IsReached, IsToldOfLeft}
use Rattle.f11fs.proofs.AllTold.{number_next, told_left}
use Rattle.f11fs.proofs.telling.add_left.Goals as goal

pub loop-past-preserved : goal.loop-past-preserved
loop-past-preserved c =
    let t = c.in_ok-add_unnamed.ensures.told in
    let low : c.loop-past.past + 1 < c.args.most + 1 = omega (arith, c.loop-past-test.true) in
    let reached : (slice_get c.deref.result.now (c.loop-past.past + 1) ≡ Some true) ↔ IsReached c.args.before.now c.args.old.now c.args.after.now c.args.new.now (c.loop-past.past + 1) =
    subst (λ (flags : List Bool). (slice_get flags (c.loop-past.past + 1) ≡ Some true) ↔ IsReached c.args.before.now c.args.old.now c.args.after.now c.args.new.now (c.loop-past.past + 1)) (sym c.deref.ensures.value)
    (c.in_ok-named.ensures (c.loop-past.past + 1) low) in (
      c.add_unnamed.ensures.mode ∙ c.loop-past.invariant.0,
      number_next (λ json number told. IsToldOfLeft json c.args.before.now c.args.old.now c.args.after.now c.args.new.now number told) c.loop-past.past (c.loop-past.past + 1) c.args.plan.now c.loop-past.plan c.add_unnamed.new.plan refl
          c.loop-past.invariant.0 c.loop-past.invariant.1
          (t.0, told_left c.loop-past.plan.json c.args.before.now c.args.old.now c.args.after.now c.args.new.now (c.loop-past.past + 1) t.0 c.is_noted-is_named.result c.deref.result.now c.is_noted-is_named.ensures reached t.1, t.2),
    )
