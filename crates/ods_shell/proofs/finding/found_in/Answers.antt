use Rattle.std.proofs.Common.{sym, subst}
use Rattle.std.specs.Prelude.{IfOk}
use Rattle.ods_paths.specs.Views.{said_files}
use Rattle.ods_shell.specs.Found.{AreFoundIn}
use Rattle.ods_shell.proofs.ListedWhole.{lines_are}
use Rattle.ods_shell.proofs.finding.found_in.Goals as goal

pub returns-in-Some : goal.returns-in-Some
returns-in-Some c =
    subst (λ o. IfOk c.find_chosen.result (λ found. AreFoundIn c.args.disk.now.image.now c.args.disk.now.layout.now (said_files o) c.args.unsaid c.args.number found.items)) (sym c.in-Some.is) c.find_chosen.ensures

pub returns-in-None : goal.returns-in-None
returns-in-None c =
    subst (λ o. IfOk c.lines_of.result (λ found. AreFoundIn c.args.disk.now.image.now c.args.disk.now.layout.now (said_files o) c.args.unsaid c.args.number found.items)) (sym c.in-None.is)
    (lines_are c.args.disk.now.image.now c.args.disk.now.layout.now c.args.number c.lines_of.result c.lines_of.ensures.there c.lines_of.ensures.none)
