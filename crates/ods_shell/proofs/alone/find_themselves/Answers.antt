use Rattle.std.proofs.Common.{◌≡◌, inl, inr, refl, sym, subst, [], List, ℕ}
use Rattle.std.proofs.lemmas.Result.{IfErr-weaker, IfOk-weaker}
use Rattle.ods_paths.specs.Views.{folder as said_folder, step as said_step, steps as said_steps}
use Rattle.ods_shell.specs.declared.alone.Alone.TheVariants as alone
use Rattle.ods_shell.specs.declared.found.Found.{Found}
use Rattle.ods_shell.specs.Named.{AreLed, AreThemselves, IsNoneAlone}
use Rattle.ods_shell.specs.Ways.{AreMet, CountAsClosed}
use Rattle.ods_shell.proofs.NoneAlone.{given_back}
use Rattle.ods_shell.proofs.alone.find_themselves.Goals as goal

pub returns-in_default-clause-named : goal.returns-in_default-clause-named
returns-in_default-clause-named c = IfOk-weaker c.find_master.result _ _ (λ r named shut counts. (c.if-folder.false, inl (c.in_default.ensures, named shut counts))) c.find_master.ensures.named

pub returns-in-Ok-clause-named : goal.returns-in-Ok-clause-named
returns-in-Ok-clause-named c =
    given_back (λ a b. (shut : List ℕ) → CountAsClosed c.args.closed.now b.items shut → AreThemselves c.args.disk.now.image.now c.args.disk.now.layout.now shut (said_folder c.args.folder.now) a.items) c.in-Ok.all c.in-Ok.met c.some_found.result
    (λ shut counts. (c.if-folder.false, inr (said_steps c.in-Some.before, said_step c.in-Some.step, c.in-Some.ensures, c.in-Ok.ensures.led shut counts))) c.some_found.ensures.given

pub returns-in-Ok-clause-met : goal.returns-in-Ok-clause-met
returns-in-Ok-clause-met c = given_back (λ a b. AreMet c.args.closed.now [] b.items) c.in-Ok.all c.in-Ok.met c.some_found.result c.in-Ok.ensures.met c.some_found.ensures.given

pub returns-in-Ok-clause-err : goal.returns-in-Ok-clause-err
returns-in-Ok-clause-err c = λ versions.
    IfErr-weaker c.some_found.result _ (IsNoneAlone c.args.disk.now.image.now c.args.disk.now.layout.now (said_folder c.args.folder.now) versions alone.Themselves)
    (λ why none.
    subst (IsNoneAlone c.args.disk.now.image.now c.args.disk.now.layout.now (said_folder c.args.folder.now) versions alone.Themselves) (sym none.0) (
      c.if-folder.false,
      inr (
        said_steps c.in-Some.before,
        said_step c.in-Some.step,
        c.in-Some.ensures,
        subst (λ (all : List Found). AreLed c.args.disk.now.image.now c.args.disk.now.layout.now [] (said_steps c.in-Some.before) (said_step c.in-Some.step) all) none.1 (c.in-Ok.ensures.led [] (inr (none.2, refl))),
      ),
    ))
    c.some_found.ensures.err
