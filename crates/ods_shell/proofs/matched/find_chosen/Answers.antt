use Rattle.std.proofs.Common.{sym, subst}
use Rattle.std.proofs.lemmas.Result.{IfOk-weaker}
use Rattle.ods_paths.specs.Views.{files}
use Rattle.ods_shell.specs.Choosing.{AreThose, IsPicked}
use Rattle.ods_shell.specs.Matched.{AreMatchedIn}
use Rattle.ods_shell.proofs.MatchedLines.{chosen_of_all}
use Rattle.ods_shell.proofs.matched.find_chosen.Goals as goal

pub returns : goal.returns
returns c =
    let said = files c.args.files.now in
    let are : AreMatchedIn c.args.disk.now.image.now c.args.disk.now.layout.now said c.args.number c.deref.result.now =
    subst (AreMatchedIn c.args.disk.now.image.now c.args.disk.now.layout.now said c.args.number) (sym c.deref.ensures.value) c.in_ok-lines.ensures.lines in
    IfOk-weaker c.pick_lines.result (λ found. AreThose (IsPicked c.unwrap_or.result c.deref.result.now) c.deref.result.now found.items) _
    (λ found picked.
    let chosen = subst (λ versions. AreThose (IsPicked versions c.deref.result.now) c.deref.result.now found.items) c.unwrap_or.ensures picked in
    (are.0, are.1, chosen_of_all said are.0 c.deref.result.now are.2 c.args.unsaid found.items chosen))
    c.pick_lines.ensures
