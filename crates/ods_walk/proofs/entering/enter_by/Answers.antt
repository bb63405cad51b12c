use Rattle.std.proofs.Common.{inl, inr, refl}
use Rattle.ods_walk.proofs.entering.enter_by.Goals as goal

pub returns-in_ok-push-clause-seen : goal.returns-in_ok-push-clause-seen
returns-in_ok-push-clause-seen c = λ entered are. inl (c.if-is_walked_into.ensures entered are, refl, c.in_ok-push.ensures.items)

pub returns-else-is_walked_into-clause-seen : goal.returns-else-is_walked_into-clause-seen
returns-else-is_walked_into-clause-seen c = λ entered are. inr (c.if-is_walked_into.ensures entered are, refl, refl)
