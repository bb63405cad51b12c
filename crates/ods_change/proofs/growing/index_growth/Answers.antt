use Rattle.std.proofs.Common.{arith}
use Rattle.ods_alloc.proofs.Scans.{last_at}
use Rattle.ods_change.proofs.growing.index_growth.Goals as goal

pub returns : goal.returns
returns c = omega (arith, last_at 0 c.args.numbers.now)
