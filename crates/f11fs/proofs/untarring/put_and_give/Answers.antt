use Rattle.std.specs.Prelude.{is_some, not}
use Rattle.f11fs.proofs.Unpacking.{put_given}
use Rattle.f11fs.proofs.untarring.put_and_give.Goals as goal

pub returns-clause-done : goal.returns-clause-done
returns-clause-done c =
    put_given (not (is_some c.args.times.now.zone)) c.args.directory c.args.times.now.run c.args.wanted.now c.args.filing.now c.put_all.new.filing c.give_due.new.filing c.new-due.result.items c.put_all.new.due.items
    c.as_slice.result.now c.give_due.result c.new-due.ensures.items c.in_ok-put_all.ensures.done c.as_slice.ensures.value c.give_due.ensures.done
