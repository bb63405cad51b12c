use Rattle.std.proofs.Common.{inr}
use Rattle.ods_remains.proofs.left.next_or_zero.Goals as goal

pub returns-in-Some : goal.returns-in-Some
returns-in-Some c = inr (c.in-Some.ensures.next, c.in-Some.ensures.small)
