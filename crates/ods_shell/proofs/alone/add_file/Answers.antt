use Rattle.std.proofs.Common.{◌++◌, [], ◌∷◌, sym, subst, List}
use Rattle.ods_shell.specs.declared.found.Found.{Found}
use Rattle.ods_shell.specs.Choosing.{AreThose}
use Rattle.ods_shell.specs.Named.{IsNoDirectory}
use Rattle.ods_shell.proofs.OneName.{those_more, those_as_before}
use Rattle.ods_shell.proofs.alone.add_file.Goals as goal

pub returns-in_ok-push : goal.returns-in_ok-push
returns-in_ok-push c = λ before are.
    subst (λ (f : List Found). AreThose IsNoDirectory (before ++ c.args.found ∷ []) f) (sym c.in_ok-push.ensures.items) (those_more IsNoDirectory before c.args.files.now.items c.args.found c.if-is_no_directory.ensures are)

pub returns-else-is_no_directory : goal.returns-else-is_no_directory
returns-else-is_no_directory c = λ before are. those_as_before IsNoDirectory before c.args.files.now.items c.args.found c.if-is_no_directory.ensures are
