use Rattle.ods_share.proofs.Carried.{made_on}
use Rattle.ods_share.proofs.Refusals.{nothing_there}
use Rattle.ods_share.proofs.Submitted.{made_at_once, made_grows}
use Rattle.ods_share.proofs.desk.Desk.submit_shared.Goals as goal

pub invariant_of-self : goal.invariant_of-self
invariant_of-self g c =
    let on = made_on g.J.Naming.mounted g.J.Naming.opening g.J.Naming.limit c.self.inside.volume c.request_shared-made.new.self c.args.session c.args.nth c.args.who c.args.request.now c.request_shared-made.result
    c.request_shared-made.ensures c.self.invariant.0 c.self.invariant.1 in
    (on.0, on.1, nothing_there _ _ c.if-is_none.ensures)

pub returns-then-is_none-clause-submitted : goal.returns-then-is_none-clause-submitted
returns-then-is_none-clause-submitted g c =
    made_at_once c.self.inside.volume c.args.self.now c.request_shared-made.new.self c.args.session c.args.nth c.args.who c.args.request.now c.request_shared-made.result c.self.view_is c.request_shared-made.ensures

pub returns-then-is_none-clause-grown : goal.returns-then-is_none-clause-grown
returns-then-is_none-clause-grown g c =
    made_grows c.args.self.now c.request_shared-made.new.self c.args.session c.args.nth c.args.who c.args.request.now c.request_shared-made.result c.tell.result (returns-then-is_none-clause-submitted g c) c.tell.ensures
