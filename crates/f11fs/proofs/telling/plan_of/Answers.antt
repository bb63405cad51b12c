use Rattle.std.proofs.Common.{refl}
use Rattle.f11fs.proofs.AllTold.{planned}
use Rattle.f11fs.proofs.telling.plan_of.Goals as goal

pub returns : goal.returns
returns c = λ all_before all_after.
    planned c.args.json c.args.most c.args.before.now c.args.after.now c.args.old.now c.args.new.now (record { alloc = c.args.alloc; json = c.args.json; text = c.new.result }) c.add_gone.new.plan c.add_come.new.plan
    c.add_left.new.plan c.add_label.new.plan all_before all_after c.new.ensures.bytes refl c.add_gone.ensures.mode c.add_come.ensures.mode c.add_left.ensures.mode (c.in_ok-add_gone.ensures.told all_after.ordered) (c.in_ok-add_come.ensures.told all_before.ordered)
    c.in_ok-add_left.ensures.told c.in_ok-add_label.ensures.told
