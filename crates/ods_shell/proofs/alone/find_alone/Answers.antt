use Rattle.std.proofs.Common.{sym, subst}
use Rattle.std.proofs.lemmas.Result.{IfErr-weaker, IfOk-weaker}
use Rattle.ods_paths.specs.Views.{folder as said_folder}
use Rattle.ods_shell.specs.Named.{AreAlone, IsNoneAlone}
use Rattle.ods_shell.proofs.alone.find_alone.Goals as goal

pub returns-in-Files-clause-named : goal.returns-in-Files-clause-named
returns-in-Files-clause-named c =
    IfOk-weaker c.find_inside.result _ _
    (λ r named shut counts. subst (λ a. AreAlone c.args.disk.now.image.now c.args.disk.now.layout.now shut (said_folder c.args.folder.now) c.args.unsaid.versions a r.0.items) (sym c.in-Files.is) (named shut counts)) c.find_inside.ensures.named

pub returns-in-Themselves-clause-named : goal.returns-in-Themselves-clause-named
returns-in-Themselves-clause-named c =
    IfOk-weaker c.find_themselves.result _ _
    (λ r named shut counts. subst (λ a. AreAlone c.args.disk.now.image.now c.args.disk.now.layout.now shut (said_folder c.args.folder.now) c.args.unsaid.versions a r.0.items) (sym c.in-Themselves.is) (named shut counts))
    c.find_themselves.ensures.named

pub returns-in-Themselves-clause-err : goal.returns-in-Themselves-clause-err
returns-in-Themselves-clause-err c =
    IfErr-weaker c.find_themselves.result _ _ (λ why none. subst (λ a. IsNoneAlone c.args.disk.now.image.now c.args.disk.now.layout.now (said_folder c.args.folder.now) c.args.unsaid.versions a why) (sym c.in-Themselves.is) none)
    (c.find_themselves.ensures.err c.args.unsaid.versions)
