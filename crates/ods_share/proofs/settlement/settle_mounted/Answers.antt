use Rattle.std.proofs.Common.{arith}
use Rattle.ods_share.proofs.Settled.{all_fit}
use Rattle.ods_share.proofs.settlement.settle_mounted.Goals as goal

pub lengths-requires : goal.lengths-requires
lengths-requires c = all_fit c.args.volume.now.entries c.args.calls.now (c.follows.ensures.0 c.if-not-follows.false).calls.each (omega arith)
