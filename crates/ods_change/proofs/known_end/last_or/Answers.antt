use Rattle.std.proofs.Common.{arith}
use Rattle.ods_alloc.proofs.Scans.{last_at}
use Rattle.ods_change.proofs.known_end.last_or.Goals as goal

pub returns : goal.returns
returns c = omega (arith, last_at c.args.other c.args.numbers.now)
