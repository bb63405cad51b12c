use Rattle.std.proofs.Common.{◌∙◌, inr, sym}
use Rattle.ods_remains.proofs.fronts.next_unseen.Goals as goal

pub returns-then-was_seen-clause-next : goal.returns-then-was_seen-clause-next
returns-then-was_seen-clause-next c = inr (c.in-Some.next, c.in-Some.ensures.next, sym c.was_seen.ensures ∙ c.if-was_seen.true)
