use Rattle.ods_remains.proofs.Keyed.{indexed}
use Rattle.ods_remains.proofs.keys.index.Goals as goal

pub returns : goal.returns
returns c = indexed c.args.image.now c.in_ok-keys.keys.items c.sort_unstable.new.self.items c.in_ok-keys.ensures c.sort_unstable.ensures.permutation c.sort_unstable.ensures.sorted
