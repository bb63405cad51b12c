use Rattle.std.proofs.Common.{refl}
use Rattle.ods_init.proofs.RunsOn.{one_more_run}
use Rattle.ods_init.proofs.reserved.pointers_to.Goals as goal

pub loop-k-preserved : goal.loop-k-preserved
loop-k-preserved c = one_more_run c.args.first c.args.count c.loop-k.k c.loop-k.pointers.items c.push.new.self.items _ c.push.ensures.items c.requires.inside c.loop-k-test.true refl c.min.ensures c.loop-k.invariant
