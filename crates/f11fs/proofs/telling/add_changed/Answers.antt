use Rattle.f11fs.specs.Plans.{DifferBy}
use Rattle.f11fs.proofs.Told.{told_done}
use Rattle.f11fs.proofs.telling.add_changed.Goals as goal

pub returns-clause-told : goal.returns-clause-told
returns-clause-told c =
    told_done (λ a b d. DifferBy c.args.before.now a c.args.after.now b d) c.args.old c.args.new c.args.what.now c.in_ok-differs.differs
    c.args.plan.now c.add_where.new.plan c.add_where-2.new.plan c.add_where-3.new.plan c.in_ok-differs.ensures c.add_where.ensures.mode c.add_where-2.ensures.mode
    c.in_ok-add_where.ensures.line c.in_ok-add_where-2.ensures.line c.in_ok-add_where-3.ensures.line
