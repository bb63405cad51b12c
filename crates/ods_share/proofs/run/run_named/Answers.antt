use Rattle.std.proofs.Common.{List, arith, sym, subst}
use Rattle.std.specs.Prelude.{IfOk}
use Rattle.ods_request.specs.declared.answers.Entry.{Entry}
use Rattle.ods_request.specs.Lists.{Begins}
use Rattle.ods_share.proofs.Runs.{at_new_desk}
use Rattle.ods_share.proofs.run.run_named.Goals as goal

pub returns-in-Ok-clause-opening : goal.returns-in-Ok-clause-opening
returns-in-Ok-clause-opening g c = subst (λ (opening : List Entry). IfOk c.run_desk.result (λ p. Begins opening p.0.entries)) (sym c.requires.opening) c.run_desk.ensures.opening

pub returns-in-Ok-clause-ended : goal.returns-in-Ok-clause-ended
returns-in-Ok-clause-ended g c =
    let new = c.in-Ok.ensures.viewers in
    at_new_desk g.K.Keep.keeps g.J.Naming.mounted c.args.volume.mounted g.J.Naming.limit c.args.volume.limit c.args.stamp c.in-Ok.viewers.items c.args.volume.entries c.args.scripts.now c.run_desk.result
    (sym c.requires.mounted) (sym c.requires.limit) new.1 (omega (arith, c.in-Ok.viewers.ok.0, new.0)) c.run_desk.ensures.ended
