use Rattle.f11fs.proofs.AllTold.{noted_both}
use Rattle.f11fs.proofs.telling.named_numbers.Goals as goal

pub returns : goal.returns
returns c = noted_both c.args.before.now c.args.after.now c.args.old.now c.args.new.now c.args.count c.in_ok-named.named.items c.note_all.new.named.items c.note_all-2.new.named.items
    c.in_ok-named.ensures c.note_all.ensures.length c.note_all.ensures.noted c.note_all-2.ensures.noted
