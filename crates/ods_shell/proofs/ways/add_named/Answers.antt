use Rattle.std.proofs.Common.{refl}
use Rattle.ods_shell.proofs.WaysLists.{named_next}
use Rattle.ods_shell.proofs.ways.add_named.Goals as goal

pub loop-entry-preserved : goal.loop-entry-preserved
loop-entry-preserved c =
    named_next c.args.names.now c.args.entries.now c.loop-entry.entry-index c.entry-item.result (record { number = c.entry-item.result.file.number; names = c.in_ok-longer.field-0 }) c.args.found.now.items c.loop-entry.found.items c.push.new.self.items
    c.loop-entry-test.true c.entry-item.is (refl, c.in_ok-longer.ensures) c.in_ok-push.ensures.items c.loop-entry.invariant
