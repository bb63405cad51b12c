use Rattle.std.proofs.Common.{◌++◌, [], ◌∷◌, sym, subst}
use Rattle.ods_shell.specs.Choosing.{AreThose}
use Rattle.ods_shell.specs.Ways.{LeadsOn}
use Rattle.ods_shell.proofs.OneName.{those_more, those_as_before}
use Rattle.ods_shell.proofs.ways.add_way.Goals as goal

pub returns-in_ok-push : goal.returns-in_ok-push
returns-in_ok-push c = λ before are.
    let P = LeadsOn c.args.disk.now.image.now c.args.disk.now.layout.now in
    subst (λ f. AreThose P (before ++ c.args.entry.now ∷ []) f) (sym c.in_ok-push.ensures.items) (those_more P before c.args.ways.now.items c.args.entry.now c.if-leads_on.ensures are)

pub returns-else-leads_on : goal.returns-else-leads_on
returns-else-leads_on c = λ before are. those_as_before (LeadsOn c.args.disk.now.image.now c.args.disk.now.layout.now) before c.args.ways.now.items c.args.entry.now c.if-leads_on.ensures are
