use Rattle.std.proofs.Common.{sym, subst, rules}
use Rattle.std.specs.Prelude.{IsSome}
use Rattle.ods_share.proofs.Carried.{carried_on, leads_there}
use Rattle.ods_share.proofs.Refusals.{nothing_there}
use Rattle.ods_share.proofs.desk.Desk.apply_and_show.Goals as goal

pub unwrap-writer-requires : goal.unwrap-writer-requires
unwrap-writer-requires g c = search rules

pub publish_change-writer-requires-clause-pending : goal.publish_change-writer-requires-clause-pending
publish_change-writer-requires-clause-pending g c =
    leads_there _ c.self.inside.volume c.apply-answer.new.self c.args.prepared _ _ c.in-Ok-add_change.ensures.1 c.apply-answer.ensures.changed
    (search rules) (search rules) (search rules) (search rules) (search rules)

pub invariant_of-self-2 : goal.invariant_of-self-2
invariant_of-self-2 g c =
    let on = carried_on g.J.Naming.mounted g.J.Naming.opening g.J.Naming.limit c.self.inside.volume c.apply-answer.new.self c.args.prepared
    c.apply-answer.ensures.changed c.self.invariant.0 c.self.invariant.1 in
    (on.0, on.1, rw c.put_back-2.ensures c.publish_change-writer.ensures)

pub invariant_of-self : goal.invariant_of-self
invariant_of-self g c =
    let on = carried_on g.J.Naming.mounted g.J.Naming.opening g.J.Naming.limit c.self.inside.volume c.apply-done.new.self c.args.prepared
    c.apply-done.ensures.changed c.self.invariant.0 c.self.invariant.1 in
    (on.0, on.1, nothing_there _ _ c.if-is_none.ensures)
